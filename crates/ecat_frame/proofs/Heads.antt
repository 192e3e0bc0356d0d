-- The heads of two datagrams, compared part by part.
use Rattle.std.proofs.Common.{◌≡◌, ◌∙◌, sym, ap, ℕ, ◌+◌, ◌≢◌, List, [], ◌∷◌, ◌++◌, Some, None, refl}
use Rattle.ecat_frame.specs.Commands.{code_of}
use Rattle.ecat_frame.specs.Difference.{first_apart}
use Rattle.ecat_frame.specs.FrameGrammar.{word}
use Rattle.ecat_frame.specs.InsideDifference.{heading, without_circulating}
use Rattle.ecat_frame.specs.declared.datagram.Datagram.{Datagram}
use Rattle.ecat_frame.proofs.Apart.{ahead, ahead_twice, apart_behind, apart_before, apart_first, apart_none}

-- what stands behind the index
abbrev behind : Datagram → List ℕ
behind d = 0 ∷ 0 ∷ word d.head.ado ++ word (without_circulating d.length_word)

pub commands_apart : (d e : Datagram) → code_of d.head.command ≢ code_of e.head.command → first_apart (heading d) (heading e) ≡ Some 0
unfolding heading
commands_apart d e other = apart_first (code_of d.head.command) (code_of e.head.command) (d.head.index ∷ behind d) (e.head.index ∷ behind e) other

pub indices_apart : (d e : Datagram) → code_of d.head.command ≡ code_of e.head.command → d.head.index ≢ e.head.index → first_apart (heading d) (heading e) ≡ Some 1
unfolding heading
indices_apart d e code other =
    rw code (apart_behind (code_of e.head.command ∷ []) (d.head.index ∷ behind d) (e.head.index ∷ behind e) ∙ ap (ahead 1) (apart_first d.head.index e.head.index (behind d) (behind e) other))

behind_index : (d e : Datagram) → code_of d.head.command ≡ code_of e.head.command → d.head.index ≡ e.head.index
    → first_apart (heading d) (heading e) ≡ ahead 4 (first_apart (word d.head.ado ++ word (without_circulating d.length_word)) (word e.head.ado ++ word (without_circulating e.length_word)))
unfolding heading
behind_index d e code index =
    rw (code, index) (apart_behind (code_of e.head.command ∷ e.head.index ∷ 0 ∷ 0 ∷ []) (word d.head.ado ++ word (without_circulating d.length_word)) (word e.head.ado ++ word (without_circulating e.length_word)))

pub ados_apart : (d e : Datagram) (at : ℕ) → code_of d.head.command ≡ code_of e.head.command → d.head.index ≡ e.head.index → first_apart (word d.head.ado) (word e.head.ado) ≡ Some at → first_apart (heading d) (heading e) ≡ Some (4 + at)
ados_apart d e at code index apart =
    behind_index d e code index ∙ ap (ahead 4) (apart_before (word d.head.ado) (word e.head.ado) (word (without_circulating d.length_word)) (word (without_circulating e.length_word)) at refl apart)

-- and by their length words
pub length_words : (d e : Datagram) → code_of d.head.command ≡ code_of e.head.command → d.head.index ≡ e.head.index → first_apart (word d.head.ado) (word e.head.ado) ≡ None
    → first_apart (heading d) (heading e) ≡ ahead 6 (first_apart (word (without_circulating d.length_word)) (word (without_circulating e.length_word)))
length_words d e code index none =
    let same = apart_none (word d.head.ado) (word e.head.ado) none in
    behind_index d e code index
    ∙ ap (λ ws. ahead 4 (first_apart (word d.head.ado ++ word (without_circulating d.length_word)) (ws ++ word (without_circulating e.length_word)))) (sym same)
    ∙ ap (ahead 4) (apart_behind (word d.head.ado) (word (without_circulating d.length_word)) (word (without_circulating e.length_word)))
    ∙ ahead_twice 4 2 (first_apart (word (without_circulating d.length_word)) (word (without_circulating e.length_word)))
