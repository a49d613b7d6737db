-- The promises of specs/Promises, proved: by induction over grammars. Assumes nothing.
use mathlib.Core.Path.{subst}
use mathlib.Core.List.{List}
use Prim.Native.Nat.{ℕ, ◌*◌, ◌≤◌}
use lib.ListN.{length}
use Rattle.csn1.specs.Format.{Res, ok, ◌then◌}
use Rattle.csn1.specs.Grammar.{Grammar, number, numbers, low-high, ◌and◌, ◌then_by◌, flagged, listed, later, one_of, only_if, refuse, inside, format, Numbered}
use Rattle.trace.specs.Fields.{Kinds, kind_of, row_of, first_of, second_of, part_of, met_of}
use Rattle.trace.specs.Promises.{EveryTraceIsFaithful}
use Rattle.trace.proofs.Fair.{Fair, Ends, fair_as, fair-map, fair_bind, fair-row, fair-num, fair-coded, fair-opt, fair-list, fair-when, fair-release, fair-either, fair-checked, fair-inside}

pub fair : {A : Type 0} (g : Grammar A) (k : Kinds) (s : List ℕ) (p : ℕ) → p ≤ length s * 8 → Fair (Numbered g) s p (met_of g k s p) ((format g).read s p)
unfolding met_of
fair (number w) k s p l = fair-num (kind_of k) w s p
fair (numbers ws) k s p l = fair-row (row_of k) ws s p
fair low-high k s p l = fair-coded (kind_of k) s p
fair (◌and◌ f g) k s p l =
    fair_bind s p (met_of f (first_of k) s p) ((format f).read s p) (λ a q. met_of g (second_of k) s q) (λ a q. (format g).read s q then λ b r. ok (a, b) r) l
    (fair_as s p (met_of f (first_of k) s p) ((format f).read s p) (λ n. n.0) (fair f (first_of k) s p l))
    (λ a q e i j.
    fair-map (λ b. (a, b)) s q (met_of g (second_of k) s q) ((format g).read s q)
    (fair_as s q (met_of g (second_of k) s q) ((format g).read s q) (λ n. n.1) (fair g (second_of k) s q j)))
fair (◌then_by◌ f g) k s p l =
    fair_bind s p (met_of f (first_of k) s p) ((format f).read s p) (λ a q. met_of (g a) (second_of k) s q) (λ a q. (format (g a)).read s q then λ b r. ok (a, b) r) l
    (fair_as s p (met_of f (first_of k) s p) ((format f).read s p) (λ n. n.0) (fair f (first_of k) s p l))
    (λ a q e i j.
    fair-map (λ b. (a, b)) s q (met_of (g a) (second_of k) s q) ((format (g a)).read s q)
    (fair_as s q (met_of (g a) (second_of k) s q) ((format (g a)).read s q) (λ n. n.1 a) (fair (g a) (second_of k) s q j)))
fair (flagged f) k s p l = fair-opt (format f) (λ q. met_of f (part_of k) s q) s (λ q j. fair f (part_of k) s q j) (kind_of k) p l
fair (listed f) k s p l = fair-list (format f) (λ q. met_of f (part_of k) s q) s (λ q j. fair f (part_of k) s q j) (kind_of k) p l
fair (later f) k s p l = fair-release (format f) (λ q. met_of f (part_of k) s q) s (λ q j. fair f (part_of k) s q j) (kind_of k) p l
fair (one_of f g) k s p l =
    fair-either (format f) (format g) (λ q. met_of f (first_of k) s q) (λ q. met_of g (second_of k) s q) s
    (λ q j. fair_as s q (met_of f (first_of k) s q) ((format f).read s q) (λ n. n.0) (fair f (first_of k) s q j))
    (λ q j. fair_as s q (met_of g (second_of k) s q) ((format g).read s q) (λ n. n.1) (fair g (second_of k) s q j)) (kind_of k) p l
fair (only_if t f) k s p l = fair-when (format f) (λ q. met_of f k s q) s (λ q j. fair f k s q j) t p l
fair (refuse m t f) k s p l =
    fair-checked t m s p (met_of f k s p) ((format f).read s p) (λ n. n.2) (fair_as s p (met_of f k s p) ((format f).read s p) (λ n. n.3) (fair f k s p l))
fair (inside m f) k s p l =
    fair-inside m s p (met_of f k s p) ((format f).read s p) (λ n. n.0) (fair_as s p (met_of f k s p) ((format f).read s p) (λ n. n.1) (fair f k s p l))

pub every_trace_is_faithful : EveryTraceIsFaithful
every_trace_is_faithful A g k s p l =
    let h = fair g k s p l in
    record {
      gapless = h.gapless;
      standing = h.standing;
      read = λ a q e. subst (λ (x : Res A). Ends (Numbered g) p (met_of g k s p) x) e h.ends;
      clipped = λ r n e i. subst (λ (x : Res A). Ends (Numbered g) p (met_of g k s p) x) e h.ends n i;
    }
