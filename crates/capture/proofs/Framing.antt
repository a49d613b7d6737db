-- The octets of fields in a row are those fields, and what they say is what the receiver answers. Assumes nothing.
use Rattle.std.proofs.Common.{◌≡◌, ℕ, zero, suc, ◌+◌, ◌≤◌, Bool, true, false, eqb, List, [], ◌∷◌, ◌++◌, length, refl, ap, ◌∙◌, div-add-mod', arith, length-append, take_at, drop_at, ne_eqb}
use Rattle.std.proofs.Common.{eqb-true, le-leb}
use Rattle.bits.specs.Field.{both}
use Rattle.receiver.specs.declared.Receiver.{Receiver}
use Rattle.receiver.specs.Step.{Event, step_of}
use Rattle.capture.specs.Capture.{Field, field_octets, head_length, length_in, is_whole, first_field, behind_first, Part, whole, parts_from, parts_of}
use Rattle.capture.specs.Replay.{accepts, start_in, is_setup, said_only, said_by, running, line_text, next_number, text_from, header, replay_of}
use Rattle.capture.specs.Promises.{capture_of, Say, answers_text}
use Rattle.capture.proofs.Wholes.{parts_whole}

-- ## One field at the front

module _ (f : Field) (s : List ℕ) where
  abbrev octets : List ℕ
  octets = field_octets f ++ s

  length-there : length_in octets ≡ length f.contents
  unfolding field_octets
  length-there = div-add-mod' (length f.contents) 256

  octets-length : length octets ≡ 3 + length f.contents + length s
  unfolding field_octets
  octets-length = ap (λ n. suc (suc (suc n))) (length-append f.contents s) ∙ (let z : suc (suc (suc (length f.contents + length s))) ≡ 3 + length f.contents + length s = omega arith in z)

  whole-there : is_whole octets ≡ true
  whole-there = rw (le-leb head_length (length octets) (omega (arith, octets-length)), length-there) (le-leb (head_length + length f.contents) (length octets) (omega (arith, octets-length)))

  first-there : first_field octets ≡ f
  unfolding field_octets
  first-there = rw length-there (ap (λ (c : List ℕ). record { tag = f.tag; contents = c }) (take_at f.contents s (length f.contents) refl))

  behind-there : behind_first octets ≡ s
  unfolding field_octets
  behind-there = rw length-there (drop_at (field_octets f) s (head_length + length f.contents) (let z : suc (suc (suc (length f.contents))) ≡ head_length + length f.contents = omega arith in z))

  pub field-parts : (k : ℕ) → parts_from (suc k) (field_octets f ++ s) ≡ whole f ∷ parts_from k s
  field-parts k = parts_whole k octets (omega (arith, octets-length)) whole-there ∙ rw (first-there, behind-there)

-- ## Fields in a row

unfoldable pub wholes : List Field → List Part
wholes [] = []
wholes (f ∷ fs) = whole f ∷ wholes fs

pub all-parts : (fs : List Field) (k : ℕ) → length (capture_of fs) ≤ k → parts_from k (capture_of fs) ≡ wholes fs
unfolding capture_of wholes parts_from
all-parts [] zero h = refl
all-parts [] (suc k) h = refl
all-parts (f ∷ fs) zero h = absurd (omega (arith, octets-length f (capture_of fs)))
all-parts (f ∷ fs) (suc k) h = field-parts f (capture_of fs) k ∙ ap (λ (ps : List Part). whole f ∷ ps) (all-parts fs k (omega (arith, octets-length f (capture_of fs))))

-- ## What they are answered with

said_all : (n : ℕ) (r : Receiver) (fs : List Field) (es : List Event) → Say fs es → text_from n (running r) (wholes fs) ≡ answers_text n r fs es
unfolding text_from wholes answers_text
said_all n r [] [] u = refl
said_all n r [] (e ∷ es) u = absurd u
said_all n r (f ∷ fs) [] u = absurd u
said_all n r (f ∷ fs) (e ∷ es) u =
    rw (ne_eqb f.tag 0 u.0, u.1.0) (ap (λ (t : List ℕ). line_text n (said_by f.tag (step_of r e)) ++ t) (said_all (next_number n) (step_of r e).receiver fs es u.1.1))

first-true : (a b : Bool) → both a b ≡ true → a ≡ true
first-true true b e = refl
first-true false b e = e

is-accepted : (f : Field) → accepts f ≡ true → both (eqb f.tag 0) (both (is_setup f.contents) (eqb (start_in f.contents).refusal.number 0)) ≡ true
unfolding accepts
is-accepted f e = e

pub answers_are : (f : Field) (fs : List Field) (es : List Event) → accepts f ≡ true → Say fs es
    → replay_of (capture_of (f ∷ fs)) ≡ header ++ (line_text 1 (said_only 0 0) ++ answers_text 2 (start_in f.contents).receiver fs es)
unfolding replay_of parts_of text_from wholes
answers_are f fs es a u =
    let t : f.tag ≡ 0 = eqb-true f.tag 0 (first-true (eqb f.tag 0) (both (is_setup f.contents) (eqb (start_in f.contents).refusal.number 0)) (is-accepted f a)) in
    let p = all-parts (f ∷ fs) (length (capture_of (f ∷ fs))) (omega arith) in
    ap (λ (x : List ℕ). header ++ x) (rw (p, a, t) (ap (λ (x : List ℕ). line_text 1 (said_only 0 0) ++ x) (said_all 2 (start_in f.contents).receiver fs es u)))
