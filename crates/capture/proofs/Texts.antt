-- What is put into lent octets piece behind piece, and how long the text of a field is. Assumes nothing.
use Rattle.std.proofs.Common.{◌≡◌, ℕ, zero, suc, ◌+◌, ◌*◌, ◌%◌, ◌<◌, ◌≤◌, List, [], ◌∷◌, ◌++◌, length, get_or, set, sym, refl, ap, ◌∙◌, append_assoc, append-nil, add-zero, arith}
use Rattle.std.proofs.Common.{length-append, lt-ltb, le-leb}
use borrow.Author.Tests.{lt-leb}
use lib.Seq.{sets-eq}
use Rattle.arrays.specs.Runs.{stored}
use Rattle.arrays.proofs.Running.{stored-none, stored_one, stored-then, length-stored}
use Rattle.receiver.specs.declared.Told.{Told}
use Rattle.receiver.specs.Step.{no_told}
use Rattle.text.specs.Lines.{Line, added}
use Rattle.text.specs.Digits.{numeral, decimal}
use Rattle.text.proofs.Lines.{line}
use Rattle.text.proofs.Numerals.{length-numeral}
use Rattle.capture.specs.Replay.{told, blank, line_end, entry_text, entries_text, field_text}

-- ## One behind the other

pub added-stored : (s l : List ℕ) (at : ℕ) → at + length s ≤ length l → added s (line l at) ≡ line (stored l at s) (at + length s)
unfolding added stored
added-stored s l at h = rw (le-leb (at + length s) (length l) h, sets-eq s l at h)

pub nothing-added : (l : List ℕ) (at : ℕ) → at ≤ length l → line l at ≡ added [] (line l at)
nothing-added l at h =
    let z : at + 0 ≤ length l = omega arith in
    sym (added-stored [] l at z ∙ rw (stored-none l at, add-zero at))

-- the place and the length behind what was put
pub placed : (s l o : List ℕ) (at end : ℕ) → at + length s ≤ length l → line o end ≡ added s (line l at) → (end ≡ at + length s) × (length o ≡ length l)
placed s l o at end h e =
    let w : line o end ≡ line (stored l at s) (at + length s) = e ∙ added-stored s l at h in
    (ap (λ (x : Line). x.at) w, ap (λ (x : Line). length x.octets) w ∙ length-stored l at s)

pub then-added : (s t l : List ℕ) (at : ℕ) (x y : Line) → at + length s + length t ≤ length l → x ≡ added s (line l at) → y ≡ added t x → y ≡ added (s ++ t) (line l at)
then-added s t l at x y h e f =
    let u : at + length s ≤ length l = omega arith in
    let v : at + length s + length t ≤ length (stored l at s) = rw length-stored h in
    let w : at + length (s ++ t) ≤ length l = rw length-append (omega arith) in
    let q : at + length s + length t ≡ at + length (s ++ t) = rw length-append (omega arith) in
    f ∙ ap (added t) (e ∙ added-stored s l at u) ∙ added-stored t (stored l at s) (at + length s) v ∙ rw (stored-then l at s t, q) (sym (added-stored (s ++ t) l at w))

-- one octet behind what was put
pub octet-added : (s l o : List ℕ) (at end b : ℕ) → at + length s < length l → line o end ≡ added s (line l at) → line (set o end b) (end + 1) ≡ added (s ++ (b ∷ [])) (line l at)
octet-added s l o at end b h j =
    let p = placed s l o at end (omega arith) j in
    let u : end + 1 ≤ length o = omega arith in
    then-added s (b ∷ []) l at (line o end) (line (set o end b) (end + 1)) (omega arith) j
    (rw (stored_one o end b) (sym (added-stored (b ∷ []) o end u)))

-- a number below ten is one digit
pub one-digit : (n : ℕ) → n < 10 → decimal n ≡ (48 + n) ∷ []
unfolding numeral
one-digit n h = let z : n % 10 ≡ n = omega arith in rw (lt-leb 10 n h, z, lt-ltb n 10 h)

pub digit-added : (l : List ℕ) (at n d b : ℕ) → at + 21 ≤ length l → n < 10 → d ≡ 48 + n → line (set (set l at d) (at + 1) b) (at + 2) ≡ added (decimal n ++ (b ∷ [])) (line l at)
unfolding stored
digit-added l at n d b h k e =
    let z : at + 1 ≡ suc at = omega arith in
    let w : at + length (decimal n ++ (b ∷ [])) ≤ length l = rw (one-digit n k) (omega arith) in
    sym (added-stored (decimal n ++ (b ∷ [])) l at w ∙ rw (one-digit n k, e, z))

-- ## How long they are

pub length-number : (n b : ℕ) → length (decimal n ++ (b ∷ [])) ≤ 21
length-number n b = rw length-append (omega (arith, length-numeral 10 20 0 n))

-- a line of numbers, as it is put
pub four-numbers : (n t r d : ℕ)
    → ((decimal n ++ (blank ∷ [])) ++ (decimal t ++ (blank ∷ []))) ++ (decimal r ++ (blank ∷ [])) ++ (decimal d ++ (line_end ∷ [])) ≡ field_text n t r d
unfolding field_text
four-numbers n t r d = simp append_assoc

pub length-field : (n t r d : ℕ) → length (field_text n t r d) ≤ 84
length-field n t r d =
    rw (← four-numbers n t r d)
    (simp length-append (omega (arith, length-numeral 10 20 0 n, length-numeral 10 20 0 t, length-numeral 10 20 0 r, length-numeral 10 20 0 d)))

pub entry-numbers : (k t : ℕ) → (blank ∷ blank ∷ []) ++ (decimal k ++ (blank ∷ [])) ++ (decimal t ++ (line_end ∷ [])) ≡ entry_text (k, t)
entry-numbers k t = simp append_assoc

pub length-entry : (e : ℕ × ℕ) → length (entry_text e) ≤ 44
length-entry e = simp length-append (omega (arith, length-numeral 10 20 0 e.0, length-numeral 10 20 0 e.1))

pub length-entries : (es : List (ℕ × ℕ)) → length (entries_text es) ≤ 44 * length es
unfolding entries_text
length-entries [] = omega arith
length-entries (e ∷ es) = rw length-append (omega (arith, length-entry e, length-entries es))

pub entries-more : (es : List (ℕ × ℕ)) (e : ℕ × ℕ) → entries_text (es ++ (e ∷ [])) ≡ entries_text es ++ entry_text e
unfolding entries_text
entries-more [] e = append-nil (entry_text e)
entries-more (d ∷ es) e = rw (entries-more es e) (sym (append_assoc (entry_text d) (entries_text es) (entry_text e)))

-- ## The entries of an answer

pub length-told : (ts : List Told) → length (told ts) ≡ length ts
length-told [] = refl
length-told (t ∷ ts) = ap suc (length-told ts)

pub told_at : (ts : List Told) (j : ℕ) → j < length ts → get_or (told ts) j (0, 0) ≡ ((get_or ts j no_told).key, (get_or ts j no_told).number)
told_at [] j h = absurd (omega arith)
told_at (t ∷ ts) zero h = refl
told_at (t ∷ ts) (suc j) h = told_at ts j (omega arith)
