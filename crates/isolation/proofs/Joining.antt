-- When the one-call receiver joins: exactly where a half meets the opposite one, which it still holds. Assumes nothing.
use mathlib.Core.Path.{◌≡◌, refl, sym, ap, subst, ◌∙◌}
use mathlib.Core.Bool.{Bool, true, false}
use mathlib.Core.List.{List, [], ◌∷◌}
use mathlib.Core.Option.{Option, none, some}
use Prim.Native.Nat.{ℕ, zero, suc, ◌+◌, ◌≤◌, ◌<◌}
use native.Mathlib.Omega.{arith}
use lib.Dec.{ltb, eqb}
use lib.ListN.{length, take, get_or}
use borrow.Author.Tests.{ltb-true}
use Rattle.bits.specs.Field.{pick}
use Rattle.receiver.specs.declared.Record.{Record}
use Rattle.receiver.specs.Model.{agree, joined_of}
use Rattle.receiver.specs.Channels.{Channel}
use Rattle.receiver.specs.Step.{Cause, nothing, joining, paged, moving, numbered}
use Rattle.isolation.specs.One.{may_lead, gone_by, Kind, clear, piece, first, second, bare, unusable, kind_on, Which, theFirst, theSecond, Half, Known, One}
use Rattle.isolation.specs.One.{Said, Heard, saying, said_by, met, meet_kind, says, new_half, meet_one, Sight, aged, changed, held_after_of, said_of, spared_by, spared}
use Rattle.isolation.specs.History.{Opposite}
use Rattle.isolation.specs.Promises.{OppositeHeld, joined_with}

-- ## One entry

-- what a half meets, said of an entry of any kind
record MetOpposite (k : Kind) (h : Option Half) (e : Record) : Type 0 where
  half : Half
  held : h ≡ some half
  opposite : Opposite k half.which
  agrees : agree half.entry e ≡ true

-- of two opposite halves
told-three : (w : Bool) (j : Record) (h : Half) → (met w j h).number ≡ 3 → w ≡ true
told-three true j h q = refl
told-three false j h q = absurd (omega arith)

opposite-first : (w : Which) (a : ℕ) (x e : Record) (c : Channel) → (meet_kind c first (some (record { which = w; age = a; entry = x })) e).number ≡ 3
    → Opposite first w × (agree x e ≡ true)
opposite-first theFirst a x e c q = absurd (omega arith)
opposite-first theSecond a x e c q = (tt, told-three (agree x e) (joined_of e x) (record { which = theSecond; age = a; entry = x }) q)

opposite-second : (w : Which) (a : ℕ) (x e : Record) (c : Channel) → (meet_kind c second (some (record { which = w; age = a; entry = x })) e).number ≡ 3
    → Opposite second w × (agree x e ≡ true)
opposite-second theFirst a x e c q = (tt, told-three (agree x e) (joined_of x e) (record { which = theFirst; age = a; entry = x }) q)
opposite-second theSecond a x e c q = absurd (omega arith)

three : (c : Channel) (k : Kind) (h : Option Half) (e : Record) → (meet_kind c k h e).number ≡ 3 → MetOpposite k h e
three c clear h e q = absurd (omega arith)
three c piece h e q = absurd (omega arith)
three c first none e q = absurd (omega arith)
three c first (some h) e q =
    let o = opposite-first h.which h.age h.entry e c q in
    record { half = h; held = refl; opposite = o.0; agrees = o.1 }
three c second none e q = absurd (early (may_lead c) q)
  where
    early : (b : Bool) → (pick b (says 4 (new_half theSecond e)) (says 8 none)).number ≡ 3 → ⊥
    early true p = omega arith
    early false p = omega arith
three c second (some h) e q =
    let o = opposite-second h.which h.age h.entry e c q in
    record { half = h; held = refl; opposite = o.0; agrees = o.1 }
three c bare h e q = absurd (omega arith)
three c unusable h e q = absurd (omega arith)

-- and then it is joined, and nothing is held
abbrev joined : Half → Record → Heard
joined h e = record { number = 3; told = joined_with h e; held = none }

joins_with : (c : Channel) (k : Kind) (w : Which) (a : ℕ) (x e : Record) → Opposite k w → agree x e ≡ true
    → meet_kind c k (some (record { which = w; age = a; entry = x })) e ≡ joined (record { which = w; age = a; entry = x }) e
joins_with c clear w a x e o q = absurd o
joins_with c piece w a x e o q = absurd o
joins_with c first theFirst a x e o q = absurd o
joins_with c first theSecond a x e o q = rw q
joins_with c second theFirst a x e o q = rw q
joins_with c second theSecond a x e o q = absurd o
joins_with c bare w a x e o q = absurd o
joins_with c unusable w a x e o q = absurd o

-- ## No half that is held has run out

abbrev Young : ℕ → Option Half → Type 0
Young timer none = Unit {0}
Young timer (some h) = h.age < timer

is-young : (timer : ℕ) (h : Option Half) (x : Half) → Young timer h → h ≡ some x → x.age < timer
is-young timer h x y e = subst (Young timer) e y

pub young-aged : (timer d : ℕ) (h : Option Half) → Young timer (aged timer d h)
young-aged timer d none = tt
young-aged timer d (some h) = go (ltb (h.age + d) timer) refl
  where
    go : (b : Bool) → ltb (h.age + d) timer ≡ b → Young timer (pick b (some (record { which = h.which; age = h.age + d; entry = h.entry })) none)
    go true e = ltb-true (h.age + d) timer e
    go false e = tt

either : (timer : ℕ) (b : Bool) (x y : Option Half) → Young timer x → Young timer y → Young timer (pick b x y)
either timer true x y p q = p
either timer false x y p q = q

pub young-spared : (timer key : ℕ) (c : Channel) (s : One) (v : Sight) → Young timer s.held → Young timer (spared key c s v)
young-spared timer key c s v y = by-cause v.cause
  where
    by-cause : (x : Cause) → Young timer (spared_by key c s.cell x s.held)
    by-cause nothing = y
    by-cause (joining k) = either timer (eqb k key) s.held none y tt
    by-cause (paged k) = either timer (eqb k key) s.held none y tt
    by-cause (moving m) = either timer (gone_by c m) none s.held tt y
    by-cause (numbered n) = either timer (changed s.cell.nln n) none s.held tt y

module _ (timer : ℕ) (long : 1 ≤ timer) where
  young-met : (w : Bool) (j : Record) (h : Half) → h.age < timer → Young timer (met w j h).held
  young-met true j h y = tt
  young-met false j h y = y

  young-first : (c : Channel) (w : Which) (a : ℕ) (x e : Record) → a < timer → Young timer (meet_kind c first (some (record { which = w; age = a; entry = x })) e).held
  young-first c theFirst a x e y = y
  young-first c theSecond a x e y = young-met (agree x e) (joined_of e x) (record { which = theSecond; age = a; entry = x }) y

  young-second : (c : Channel) (w : Which) (a : ℕ) (x e : Record) → a < timer → Young timer (meet_kind c second (some (record { which = w; age = a; entry = x })) e).held
  young-second c theFirst a x e y = young-met (agree x e) (joined_of x e) (record { which = theFirst; age = a; entry = x }) y
  young-second c theSecond a x e y = y

  young_meet : (c : Channel) (k : Kind) (h : Option Half) (e : Record) → Young timer h → Young timer (meet_kind c k h e).held
  young_meet c clear h e y = y
  young_meet c piece h e y = y
  young_meet c first none e y = long
  young_meet c first (some h) e y = young-first c h.which h.age h.entry e y
  young_meet c second none e y = early (may_lead c)
    where
      early : (b : Bool) → Young timer (pick b (says 4 (new_half theSecond e)) (says 8 none)).held
      early true = long
      early false = tt
  young_meet c second (some h) e y = young-second c h.which h.age h.entry e y
  young_meet c bare h e y = y
  young_meet c unusable h e y = y

  young-after : (c : Channel) (h : Option Half) (es : List Record) → Young timer h → Young timer (held_after_of c h es)
  unfolding held_after_of meet_one
  young-after c h [] y = y
  young-after c h (e ∷ es) y = young-after c (meet_one c h e).held es (young_meet c (kind_on c e) h e y)

-- ## The k-th entry

said_at : (c : Channel) (set : ℕ) (w : Known) (h : Option Half) (es : List Record) (k : ℕ) (d : Said) (e : Record) → k < length es
    → get_or (said_of c set w h es) k d ≡ said_by set w (meet_one c (held_after_of c h (take k es)) (get_or es k e))
unfolding said_of held_after_of
said_at c set w h [] k d e l = absurd (omega arith)
said_at c set w h (x ∷ es) zero d e l = refl
said_at c set w h (x ∷ es) (suc k) d e l = said_at c set w (meet_one c h x).held es k d e (omega arith)

held_at : (c : Channel) (h : Option Half) (es : List Record) (k : ℕ) (e : Record) → k < length es
    → held_after_of c h (take (suc k) es) ≡ (meet_one c (held_after_of c h (take k es)) (get_or es k e)).held
unfolding held_after_of
held_at c h [] k e l = absurd (omega arith)
held_at c h (x ∷ es) zero e l = refl
held_at c h (x ∷ es) (suc k) e l = held_at c (meet_one c h x).held es k e (omega arith)

module _ (c : Channel) (set : ℕ) (w : Known) (timer : ℕ) (long : 1 ≤ timer) (h : Option Half) (y : Young timer h) (es : List Record) (k : ℕ) (l : k < length es) (d : Said) (z : Record) where
  pub joins-only : (get_or (said_of c set w h es) k d).number ≡ 3 → OppositeHeld c timer (held_after_of c h (take k es)) (get_or es k z)
  unfolding meet_one
  joins-only q =
      let b : Option Half = held_after_of c h (take k es) in
      let o = three c (kind_on c (get_or es k z)) b (get_or es k z) (sym (ap (λ (s : Said). s.number) (said_at c set w h es k d z l)) ∙ q) in
      record {
        half = o.half;
        held = o.held;
        young = is-young timer b o.half (young-after timer long c h (take k es) y) o.held;
        opposite = o.opposite;
        agrees = o.agrees;
      }

  pub joins-then : (o : OppositeHeld c timer (held_after_of c h (take k es)) (get_or es k z))
      → (get_or (said_of c set w h es) k d ≡ saying set w 3 (joined_with o.half (get_or es k z))) × (held_after_of c h (take (suc k) es) ≡ none)
  unfolding meet_one
  joins-then o =
      let e : Record = get_or es k z in
      let q : meet_one c (held_after_of c h (take k es)) e ≡ joined o.half e =
      ap (λ (b : Option Half). meet_one c b e) o.held ∙ joins_with c (kind_on c e) o.half.which o.half.age o.half.entry e o.opposite o.agrees in
      (said_at c set w h es k d z l ∙ ap (said_by set w) q, held_at c h es k z l ∙ ap (λ (x : Heard). x.held) q)
