-- A capture cut into its parts, each with what it is refused with: what is copied of them, and what is listed. Assumes nothing.
use Rattle.std.specs.Prelude.{List, [], ◌∷◌, ◌++◌, ℕ, zero, suc, ◌+◌, length, take, eqb}
use Rattle.bits.specs.Field.{pick}
use Rattle.capture.specs.Capture.{head_length, length_in, is_whole, first_field, behind_first, whole}
use Rattle.capture.specs.Replay.{Stage, before, is_over, said_of, stage_after, input_ends, next_number}
use Rattle.capture.specs.Mend.{left_text, further_by}

-- the octets of a part, and its refusal
pub record Cut : Type 0 where
  pub octets : List ℕ
  pub refusal : ℕ

-- The input cut into its parts; the part that ends the run stands for all that is left.
unfoldable pub cuts_from : ℕ → Stage → List ℕ → List Cut
cuts_from zero st s = []
cuts_from (suc bound) st [] = []
cuts_from (suc bound) st (t ∷ s) =
    pick (is_whole (t ∷ s))
    (pick (is_over (stage_after (whole (first_field (t ∷ s))) st)) (record { octets = t ∷ s; refusal = (said_of (whole (first_field (t ∷ s))) st).refusal } ∷ [])
    (record { octets = take (head_length + length_in (t ∷ s)) (t ∷ s); refusal = (said_of (whole (first_field (t ∷ s))) st).refusal }
    ∷ cuts_from bound (stage_after (whole (first_field (t ∷ s))) st) (behind_first (t ∷ s))))
    (record { octets = t ∷ s; refusal = input_ends } ∷ [])

abbrev pub cuts_of : List ℕ → List Cut
cuts_of s = cuts_from (length s) before s

unfoldable pub together : List Cut → List ℕ
together [] = []
together (c ∷ cs) = c.octets ++ together cs

-- those that are copied
unfoldable pub copied_of : List Cut → List ℕ
copied_of [] = []
copied_of (c ∷ cs) = pick (eqb c.refusal 0) c.octets [] ++ copied_of cs

-- those that are listed, under their numbers and offsets
unfoldable pub listed_of : ℕ → ℕ → List Cut → List ℕ
listed_of n offset [] = []
listed_of n offset (c ∷ cs) = pick (eqb c.refusal 0) [] (left_text n offset c.refusal) ++ listed_of (next_number n) (further_by offset (length c.octets)) cs
