pub mod Exchanges
pub mod Serves
pub mod Drive
pub mod ScriptState
pub mod RoseBy
pub mod Tries
