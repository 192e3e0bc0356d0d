-- What a master has learned, as the layer below says it.
pub use Rattle.master_frames.specs.Known.{words_of, nothing}
