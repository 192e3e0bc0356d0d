-- What a reply tells of its slave.
use Rattle.std.proofs.Common.{◌≡◌, ℕ, ◌+◌, [], Some, slice_get, refl, ap}
use Rattle.std.proofs.lemmas.Option.{get_or_from_slice_get}
use Rattle.byteorder.specs.Endian.{little_number}
use Rattle.ecat_frame.specs.FrameGrammar.{DatagramValue, FrameValue}
use Rattle.ecat_frame.specs.declared.command.Command.TheVariants.{Nop}
use Rattle.master_script.specs.Frames.{asks}
use Rattle.master_script.specs.Slaves.{SlaveWords}
use Rattle.master_script.specs.Steps.{data_at, identified_from, wkc_at}

pub told : (f : FrameValue) (k features status : ℕ) (d : DatagramValue) → features ≡ little_number 2 (data_at f k) → status ≡ little_number 2 (data_at f (k + 1)) → slice_get f.datagrams (k + 2) ≡ Some d
    → ◌≡◌ {A = SlaveWords} (record { features = features; status = status; fourth = d.wkc }) (identified_from k f)
told f k features status d a b e =
    let w : wkc_at f (k + 2) ≡ d.wkc = ap (λ (x : DatagramValue). x.wkc) (get_or_from_slice_get f.datagrams (k + 2) d (asks 0 Nop 0 0 []) e) in
    rw (a, b, w) refl
