pub mod Slaves
