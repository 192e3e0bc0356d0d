use Rattle.ecat_frame.specs.FrameGrammar.{word}
use Rattle.ecat_frame.proofs.Puts.{put_mid-rest}
use Rattle.ecat_frame.proofs.bytes.write_word.Goals as goal

pub returns : goal.returns
returns c = put_mid-rest c.args.at c.args.bytes.now c.write_u16.new.buf (word c.args.value) c.write_u16.ensures
