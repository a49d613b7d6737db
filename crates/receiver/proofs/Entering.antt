-- What both kinds of events go by, by value and in place: the places behind one more entry, and the rule of a message's NLN. Assumes nothing.
use mathlib.Core.Path.{◌≡◌, refl}
use mathlib.Core.List.{List, [], ◌∷◌, ◌++◌}
use mathlib.Core.Bool.{Bool, true, false}
use Prim.Native.Nat.{ℕ}
use Rattle.bits.specs.Field.{both}
use Rattle.receiver.specs.declared.Record.{Record}
use Rattle.receiver.specs.declared.Slot.{Slot}
use Rattle.receiver.specs.declared.Receiver.{Receiver}
use Rattle.receiver.specs.declared.Cell.{Cell}
use Rattle.receiver.specs.Channels.{key_count, Channel, hasNln}
use Rattle.receiver.specs.Model.{rule_for}
use Rattle.receiver.specs.Step.{numbering, changes, rule_by, slots_after, all_after}

module _ (keys sets : List ℕ) (cell : Cell) (ch now : ℕ) where
  pub after_snoc : (slots : List Slot) (es : List Record) (e : Record)
      → all_after keys ch now slots (es ++ (e ∷ [])) ≡ slots_after keys ch now (all_after keys ch now slots es) e
  unfolding all_after
  after_snoc slots [] e = refl
  after_snoc slots (x ∷ es) e = after_snoc (slots_after keys ch now slots x) es e

-- a message's NLN; b: there is one
pub numbering_rule : (r : Receiver) (b : Bool) (n : ℕ) → rule_for (λ (c : Channel). both (hasNln c) (both b (changes r.cell n))) key_count ≡ rule_by r (numbering b n)
numbering_rule r true n = refl
numbering_rule r false n = refl
