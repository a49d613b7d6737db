-- What the one-call receiver holds is the half that came and stayed. Assumes nothing.
use mathlib.Core.Path.{◌≡◌, refl, sym, ap, ap₂, subst, ◌∙◌}
use mathlib.Core.Logic.{◌⊎◌, inl, inr}
use mathlib.Core.Bool.{Bool, true, false, not}
use mathlib.Core.List.{List, [], ◌∷◌, ◌++◌, map}
use mathlib.Core.Option.{Option, none, some}
use Prim.Native.Nat.{ℕ, ◌+◌, ◌-◌, ◌≤◌, ◌<◌}
use native.Mathlib.Omega.{arith}
use lib.Dec.{ltb, eqb}
use lib.ListN.{take}
use borrow.Author.Tests.{ltb-true, lt-ltb, eqb-true, eq-eqb}
use Rattle.bits.specs.Field.{pick}
use Rattle.receiver.specs.declared.Record.{Record}
use Rattle.receiver.specs.Model.{agree, joined_of}
use Rattle.receiver.specs.Channels.{Channel}
use Rattle.receiver.specs.Step.{Cause, nothing, joining, paged, moving, numbered}
use Rattle.isolation.specs.One.{may_lead, gone_by, Kind, clear, piece, first, second, bare, unusable, kind_on, Which, theFirst, theSecond, Half, One, Known, says, new_half}
use Rattle.isolation.specs.One.{met, meet_kind, meet_one, Seen, aged, changed, held_after_of, spared_by, spared, passed, step_one, one_after, fresh}
use Rattle.isolation.specs.History.{Moment, wait, happens, entry, followed, opened, until_entry, after_event, past_of, last_known, took, elapsed, Opposite}
use Rattle.isolation.specs.History.{Storable, SameNln, Leaves, Spares, Begins, younger, Standing, AllSpare, CameAndStayed}
use Rattle.isolation.specs.Promises.{held_before}

-- ## The history told from its end, and from the coming of the half

module _ (key : ℕ) (c : Channel) (timer : ℕ) where
  to_story : (past : List Moment) (h : Half) → 1 ≤ timer → Standing key c timer past h → CameAndStayed key c timer past h
  unfolding Standing
  to_story [] h long s = absurd s
  to_story (entry e ∷ past) h long (inr (b, f)) =
      record {
        before = past;
        later = [];
        split = ap (λ (x : Record). entry x ∷ past) b.0;
        half = subst (λ (x : Record). Storable c (kind_on c x) h.which) b.0 b.2;
        free = f;
        spared = tt;
        summed = sym b.1;
        young = omega (arith, b.1);
      }
  to_story (wait _ ∷ past) h long (inr (b, f)) = absurd b
  to_story (happens _ _ ∷ past) h long (inr (b, f)) = absurd b
  to_story (m ∷ past) h long (inl s) =
      let o = to_story past (younger (took m) h) long s.3 in
      record {
        before = o.before;
        later = m ∷ o.later;
        split = ap (λ (l : List Moment). m ∷ l) o.split;
        half = o.half;
        free = o.free;
        spared = (subst (λ (l : List Moment). Spares key c l h.which h.entry m) o.split s.0, o.spared);
        summed = omega (arith, o.summed, s.1);
        young = s.2;
      }

  from_story : (before later : List Moment) (h : Half) → Storable c (kind_on c h.entry) h.which → ((g : Half) → Standing key c timer before g → ⊥)
      → AllSpare key c h.which h.entry (entry h.entry ∷ before) later → elapsed later ≡ h.age → h.age < timer
      → Standing key c timer (later ++ (entry h.entry ∷ before)) h
  unfolding Standing
  from_story before [] h half free spare summed young = inr ((refl, sym summed, half), free)
  from_story before (m ∷ later) h half free spare summed young =
      inl (spare.0, omega arith, young, from_story before later (younger (took m) h) half free spare.1 (omega arith) (omega arith))

-- ## What is held, by the moments

module _ (key : ℕ) (c : Channel) (timer : ℕ) where
  unfoldable pub holds : List Moment → Option Half
  holds [] = none
  holds (wait t ∷ past) = aged timer t (holds past)
  holds (happens x w ∷ past) = spared_by key c (last_known past) x (holds past)
  holds (entry e ∷ past) = (meet_one c (holds past) e).held

-- ## One moment

no_half : {P : Type 0} (h : Half) → none ≡ some h → P
no_half h q = let z : ◌≡◌ {A = ℕ} 0 1 = cc in absurd (omega arith)

two_ways : {P : Type 0} → true ≡ false → P
two_ways q = let z : ◌≡◌ {A = ℕ} 0 1 = cc in absurd (omega arith)

-- time
record Waited (timer t : ℕ) (b : Option Half) (h : Half) : Type 0 where
  enough : t ≤ h.age
  young : h.age < timer
  stood : b ≡ some (younger t h)

waited : (timer t : ℕ) (b : Option Half) (h : Half) → aged timer t b ≡ some h → Waited timer t b h
waited timer t none h q = no_half h q
waited timer t (some g) h q = go (ltb (g.age + t) timer) refl q
  where
    go : (w : Bool) → ltb (g.age + t) timer ≡ w → pick w (some (record { which = g.which; age = g.age + t; entry = g.entry })) none ≡ some h → Waited timer t (some g) h
    go true e q' =
        let p : record { which = g.which; age = g.age + t; entry = g.entry } ≡ h = cc in
        let d : g.age + t - t ≡ g.age = omega arith in
        subst (λ (y : Half). Waited timer t (some g) y) p (record { enough = omega arith; young = ltb-true (g.age + t) timer e; stood = rw d })
    go false e q' = no_half h q'

waits : (timer t : ℕ) (h : Half) → t ≤ h.age → h.age < timer → aged timer t (some (younger t h)) ≡ some h
waits timer t h l y =
    let e : h.age - t + t ≡ h.age = omega arith in
    rw (e, lt-ltb h.age timer y)

-- a test that keeps, and one that discards
kept_by : (b : Bool) (o : Option Half) (h : Half) → pick b o none ≡ some h → (b ≡ true) × (o ≡ some h)
kept_by true o h q = (refl, q)
kept_by false o h q = no_half h q

lost-by : (b : Bool) (o : Option Half) (h : Half) → pick b none o ≡ some h → (b ≡ false) × (o ≡ some h)
lost-by true o h q = no_half h q
lost-by false o h q = (refl, q)

same_nln : (l : Option ℕ) (n : ℕ) → changed l n ≡ false → SameNln l n
same_nln none n q = tt
same_nln (some l) n q = go (eqb l n) refl q
  where
    go : (b : Bool) → eqb l n ≡ b → not b ≡ false → l ≡ n
    go true e q' = eqb-true l n e
    go false e q' = two_ways q'

nln-same : (l : Option ℕ) (n : ℕ) → SameNln l n → changed l n ≡ false
nln-same none n q = refl
nln-same (some l) n q = rw (eq-eqb l n q)

-- a cause leaves the half exactly where it is spared
cause-kept : (key : ℕ) (c : Channel) (l : Known) (x : Cause) (o : Option Half) (h : Half) → spared_by key c l x o ≡ some h → Leaves key c l x × (o ≡ some h)
cause-kept key c l nothing o h q = (tt, q)
cause-kept key c l (joining k) o h q = let w = kept_by (eqb k key) o h q in (eqb-true k key w.0, w.1)
cause-kept key c l (paged k) o h q = let w = kept_by (eqb k key) o h q in (eqb-true k key w.0, w.1)
cause-kept key c l (moving m) o h q = lost-by (gone_by c m) o h q
cause-kept key c l (numbered n) o h q = let w = lost-by (changed l.nln n) o h q in (same_nln l.nln n w.0, w.1)

cause-keeps : (key : ℕ) (c : Channel) (l : Known) (x : Cause) (o : Option Half) → Leaves key c l x → spared_by key c l x o ≡ o
cause-keeps key c l nothing o q = refl
cause-keeps key c l (joining k) o q = rw (eq-eqb k key q)
cause-keeps key c l (paged k) o q = rw (eq-eqb k key q)
cause-keeps key c l (moving m) o q = rw q
cause-keeps key c l (numbered n) o q = rw (nln-same l.nln n q)

-- an entry: the half stays and was not joined, or it comes
abbrev Left : Channel → Kind → Option Half → Record → Half → Type 0
Left c k b x h = ((Opposite k h.which → agree h.entry x ≡ true → ⊥) × (b ≡ some h)) ⊎ (((x ≡ h.entry) × (h.age ≡ 0) × Storable c k h.which) × (b ≡ none))

stored_as : (c : Channel) (k : Kind) (w : Which) (x : Record) (h : Half) → Storable c k w → some (record { which = w; age = 0; entry = x }) ≡ some h → Left c k none x h
stored_as c k w x h s q =
    let p : record { which = w; age = 0; entry = x } ≡ h = cc in
    subst (λ (g : Half). Left c k none x g) p (inr ((refl, refl, s), refl))

met-left : (c : Channel) (k : Kind) (x : Record) (j : Record) (g h : Half) (b : Bool) → agree g.entry x ≡ b → (met b j g).held ≡ some h → Left c k (some g) x h
met-left c k x j g h true e q = no_half h q
met-left c k x j g h false e q =
    let p : g ≡ h = cc in
    subst (λ (y : Half). Left c k (some g) x y) p (inl (λ o a. two_ways (sym a ∙ e), refl))

stays : (c : Channel) (k : Kind) (x : Record) (b : Option Half) (h : Half) → (Opposite k h.which → ⊥) → b ≡ some h → Left c k b x h
stays c k x b h n q = inl (λ o a. n o, q)

same_left : (c : Channel) (k : Kind) (x : Record) (g h : Half) → (Opposite k g.which → ⊥) → some g ≡ some h → Left c k (some g) x h
same_left c k x g h n q =
    let p : g ≡ h = cc in
    subst (λ (y : Half). Left c k (some g) x y) p (inl (λ o a. n o, refl))

first-left : (c : Channel) (x : Record) (w : Which) (a : ℕ) (e : Record) (h : Half) → (meet_kind c first (some (record { which = w; age = a; entry = e })) x).held ≡ some h
    → Left c first (some (record { which = w; age = a; entry = e })) x h
first-left c x theFirst a e h q = same_left c first x (record { which = theFirst; age = a; entry = e }) h (λ o. o) q
first-left c x theSecond a e h q = met-left c first x (joined_of x e) (record { which = theSecond; age = a; entry = e }) h (agree e x) refl q

second-left : (c : Channel) (x : Record) (w : Which) (a : ℕ) (e : Record) (h : Half) → (meet_kind c second (some (record { which = w; age = a; entry = e })) x).held ≡ some h
    → Left c second (some (record { which = w; age = a; entry = e })) x h
second-left c x theSecond a e h q = same_left c second x (record { which = theSecond; age = a; entry = e }) h (λ o. o) q
second-left c x theFirst a e h q = met-left c second x (joined_of e x) (record { which = theFirst; age = a; entry = e }) h (agree e x) refl q

left : (c : Channel) (k : Kind) (b : Option Half) (x : Record) (h : Half) → (meet_kind c k b x).held ≡ some h → Left c k b x h
left c clear b x h q = stays c clear x b h (λ o. o) q
left c piece b x h q = stays c piece x b h (λ o. o) q
left c first none x h q = stored_as c first theFirst x h tt q
left c first (some g) x h q = first-left c x g.which g.age g.entry h q
left c second none x h q = early (may_lead c) refl q
  where
    early : (b : Bool) → may_lead c ≡ b → (pick b (says 4 (new_half theSecond x)) (says 8 none)).held ≡ some h → Left c second none x h
    early true e p = stored_as c second theSecond x h e p
    early false e p = no_half h p
left c second (some g) x h q = second-left c x g.which g.age g.entry h q
left c bare b x h q = stays c bare x b h (λ o. o) q
left c unusable b x h q = stays c unusable x b h (λ o. o) q

kept-met : (x j : Record) (g : Half) (b : Bool) → (b ≡ true → ⊥) → (met b j g).held ≡ some g
kept-met x j g true n = absurd (n refl)
kept-met x j g false n = refl

not_joined : (c : Channel) (k : Kind) (x : Record) (w : Which) (a : ℕ) (e : Record) → (Opposite k w → agree e x ≡ true → ⊥)
    → (meet_kind c k (some (record { which = w; age = a; entry = e })) x).held ≡ some (record { which = w; age = a; entry = e })
not_joined c clear x w a e n = refl
not_joined c piece x w a e n = refl
not_joined c first x theFirst a e n = refl
not_joined c first x theSecond a e n = kept-met x (joined_of x e) (record { which = theSecond; age = a; entry = e }) (agree e x) (n tt)
not_joined c second x theFirst a e n = kept-met x (joined_of e x) (record { which = theFirst; age = a; entry = e }) (agree e x) (n tt)
not_joined c second x theSecond a e n = refl
not_joined c bare x w a e n = refl
not_joined c unusable x w a e n = refl

comes : (c : Channel) (k : Kind) (x : Record) (w : Which) → Storable c k w → (meet_kind c k none x).held ≡ some (record { which = w; age = 0; entry = x })
comes c clear x w s = absurd s
comes c piece x w s = absurd s
comes c first x theFirst s = refl
comes c first x theSecond s = absurd s
comes c second x theFirst s = absurd s
comes c second x theSecond s = rw s
comes c bare x w s = absurd s
comes c unusable x w s = absurd s

-- ## Standing is being held

free-none : (b : Option Half) → ((h : Half) → b ≡ some h → ⊥) → b ≡ none
free-none none f = refl
free-none (some h) f = absurd (f h refl)

no_age : (c : Channel) (h : Half) (m : Moment) → Begins c h m → h.age ≡ 0
no_age c h (wait t) b = absurd b
no_age c h (happens x w) b = absurd b
no_age c h (entry e) b = b.1

-- a half is held where it stands, and stands where it is held
record Agrees (key : ℕ) (c : Channel) (timer : ℕ) (past : List Moment) : Type 0 where
  stands : (h : Half) → holds key c timer past ≡ some h → Standing key c timer past h
  held : (h : Half) → Standing key c timer past h → holds key c timer past ≡ some h

module _ (key : ℕ) (c : Channel) (timer : ℕ) (long : 1 ≤ timer) where
  young-standing : (past : List Moment) (h : Half) → Standing key c timer past h → h.age < timer
  unfolding Standing
  young-standing [] h s = absurd s
  young-standing (m ∷ past) h (inl s) = s.2
  young-standing (m ∷ past) h (inr s) = omega (arith, no_age c h m s.0)

  -- a moment without time that spared the half
  still : (m : Moment) (past : List Moment) (h : Half) → took m ≡ 0 → Spares key c past h.which h.entry m → Standing key c timer past h
      → Standing key c timer (m ∷ past) h
  unfolding Standing
  still m past h z p s =
      let d : h.age - took m ≡ h.age = omega arith in
      inl (p, omega arith, young-standing past h s, subst (λ (n : ℕ). Standing key c timer past (record { which = h.which; age = n; entry = h.entry })) (sym d) s)

  unaged : (past : List Moment) (h : Half) → Standing key c timer past (younger 0 h) → Standing key c timer past h
  unaged past h s =
      let d : h.age - 0 ≡ h.age = omega arith in
      subst (λ (n : ℕ). Standing key c timer past (record { which = h.which; age = n; entry = h.entry })) d s

  stands_on : (m : Moment) (past : List Moment) → Agrees key c timer past → (h : Half) → holds key c timer (m ∷ past) ≡ some h → Standing key c timer (m ∷ past) h
  unfolding holds Standing meet_one
  stands_on (wait t) past a h q =
      let w = waited timer t (holds key c timer past) h q in
      inl (tt, w.enough, w.young, a.stands (younger t h) w.stood)
  stands_on (happens x v) past a h q =
      let w = cause-kept key c (last_known past) x (holds key c timer past) h q in
      still (happens x v) past h refl w.0 (a.stands h w.1)
  stands_on (entry e) past a h q = go (left c (kind_on c e) (holds key c timer past) e h q)
    where
      go : Left c (kind_on c e) (holds key c timer past) e h → Standing key c timer (entry e ∷ past) h
      go (inl l) = still (entry e) past h refl l.0 (a.stands h l.1)
      go (inr l) = inr (l.0, λ g s. no_half g (sym l.1 ∙ a.held g s))

  held_on : (m : Moment) (past : List Moment) → Agrees key c timer past → (h : Half) → Standing key c timer (m ∷ past) h → holds key c timer (m ∷ past) ≡ some h
  unfolding holds Standing meet_one
  held_on (wait t) past a h (inl s) = ap (aged timer t) (a.held (younger t h) s.3) ∙ waits timer t h s.1 s.2
  held_on (happens x w) past a h (inl s) = cause-keeps key c (last_known past) x (holds key c timer past) s.0 ∙ a.held h (unaged past h s.3)
  held_on (entry e) past a h (inl s) =
      ap (λ (b : Option Half). (meet_kind c (kind_on c e) b e).held) (a.held h (unaged past h s.3))
      ∙ not_joined c (kind_on c e) e h.which h.age h.entry s.0
  held_on (entry e) past a h (inr s) =
      ap (λ (b : Option Half). (meet_kind c (kind_on c e) b e).held) (free-none (holds key c timer past) (λ g q. s.1 g (a.stands g q)))
      ∙ comes c (kind_on c e) e h.which s.0.2
      ∙ ap (λ (x : Record). some (record { which = h.which; age = 0; entry = x })) s.0.0
      ∙ ap (λ (n : ℕ). some (record { which = h.which; age = n; entry = h.entry })) (sym s.0.1)
  held_on (wait t) past a h (inr s) = absurd s.0
  held_on (happens x w) past a h (inr s) = absurd s.0

  agrees : (past : List Moment) → Agrees key c timer past
  unfolding holds Standing
  agrees [] = record { stands = λ h q. no_half h q; held = λ h s. absurd s }
  agrees (m ∷ past) = record { stands = stands_on m past (agrees past); held = held_on m past (agrees past) }

  -- what is held is a half that came and stayed
  pub came : (past : List Moment) (h : Half) → holds key c timer past ≡ some h → CameAndStayed key c timer past h
  came past h q = to_story key c timer past h long ((agrees past).stands h q)

  pub stayed : (past : List Moment) (h : Half) → CameAndStayed key c timer past h → holds key c timer past ≡ some h
  stayed past h o =
      (agrees past).held h (subst (λ (l : List Moment). Standing key c timer l h) (sym o.split)
      (from_story key c timer o.before o.later h o.half o.free o.spared o.summed o.young))

-- ## The one-call receiver goes by the moments

module _ (key : ℕ) (c : Channel) (timer : ℕ) where
  abbrev pub standing_at : List Moment → One
  standing_at past = record { held = holds key c timer past; cell = last_known past }

  entries-held : (past : List Moment) (es : List Record) → held_after_of c (holds key c timer past) es ≡ holds key c timer (followed past (map entry es))
  unfolding held_after_of holds
  entries-held past [] = refl
  entries-held past (e ∷ es) = entries-held (entry e ∷ past) es

  entries-known : (past : List Moment) (es : List Record) → last_known (followed past (map entry es)) ≡ last_known past
  entries-known past [] = refl
  entries-known past (e ∷ es) = entries-known (entry e ∷ past) es

  entries-after : (past : List Moment) (v : Seen) (es : List Record)
      → held_after_of c (spared key c (passed timer (standing_at past) v.step) v.sight) es
      ≡ holds key c timer (followed (opened past v) (map entry es))
  unfolding holds
  entries-after past v es = entries-held (opened past v) es

  step-moments : (past : List Moment) (v : Seen) → step_one key c timer (standing_at past) v ≡ standing_at (after_event past v)
  unfolding step_one
  step-moments past v =
      ap₂ (λ (b : Option Half) (l : Known). record { held = b; cell = l }) (entries-after past v v.sight.entries)
      (sym (entries-known (opened past v) v.sight.entries))

  after-moments : (past : List Moment) (vs : List Seen) → one_after key c timer (standing_at past) vs ≡ standing_at (past_of past vs)
  unfolding one_after past_of
  after-moments past [] = refl
  after-moments past (v ∷ vs) = ap (λ (s : One). one_after key c timer s vs) (step-moments past v) ∙ after-moments (after_event past v) vs

  pub one-after : (vs : List Seen) → one_after key c timer fresh vs ≡ standing_at (past_of [] vs)
  unfolding holds
  one-after vs = after-moments [] vs

  -- what is held after events, and when the k-th entry of the next one comes
  pub held_after : (vs : List Seen) → (one_after key c timer fresh vs).held ≡ holds key c timer (past_of [] vs)
  held_after vs = ap (λ (s : One). s.held) (one-after vs)

  pub held_until : (vs : List Seen) (v : Seen) (k : ℕ)
      → held_before key c timer (one_after key c timer fresh vs) v k ≡ holds key c timer (until_entry (past_of [] vs) v k)
  held_until vs v k = ap (λ (s : One). held_before key c timer s v k) (one-after vs) ∙ entries-after (past_of [] vs) v (take k v.sight.entries)
