-- The text of a field determines its numbers: digits are told from what parts them. Assumes nothing.
use Rattle.std.proofs.Common.{◌≡◌, ℕ, zero, suc, ◌+◌, ◌-◌, ◌/◌, ◌%◌, ◌^◌, ◌<◌, ◌≤◌, Bool, true, false, cond, ltb, List, [], ◌∷◌, ◌++◌, sym, refl, ap, ◌∙◌, append_assoc, arith}
use Rattle.text.specs.Digits.{hex_digit_ascii, more, numeral, decimal, number_spelled}
use Rattle.text.proofs.Promises.{a_decimal_number_is_read_back}
use Rattle.capture.specs.Replay.{Said, blank, line_end, entry_text, entries_text, field_text, line_text}
use Rattle.capture.specs.Promises.{Small, Printable}

-- ## Digits stand above what parts them

data Above : List ℕ → Type 0 where
  empty : Above []
  digit : {c : ℕ} {s : List ℕ} → 32 < c → Above s → Above (c ∷ s)

above_then : (a b : List ℕ) → Above a → Above b → Above (a ++ b)
above_then [] b empty y = y
above_then (c ∷ a) b (digit h x) y = digit h (above_then a b x y)

above_glyph : (d : ℕ) (t : Bool) → 32 < cond t (48 + d) (87 + d)
above_glyph d true = omega arith
above_glyph d false = omega arith

above-front : (t : Bool) (s : List ℕ) → Above s → Above (cond t s [])
above-front true s x = x
above-front false s x = empty

above-numeral : (k least n : ℕ) → Above (numeral 10 k least n)
unfolding numeral
above-numeral zero least n = empty
above-numeral (suc k) least n =
    above_then (cond (more 10 least n) (numeral 10 k (least - 1) (n / 10)) []) (hex_digit_ascii (n % 10) ∷ [])
    (above-front (more 10 least n) (numeral 10 k (least - 1) (n / 10)) (above-numeral k (least - 1) (n / 10)))
    (digit (above_glyph (n % 10) (ltb (n % 10) 10)) empty)

-- ## Parted

heads : (a b : ℕ) (s t : List ℕ) → a ∷ s ≡ b ∷ t → (a ≡ b) × (s ≡ t)
heads a b s t e = (cc, cc)

split : (a b s t : List ℕ) (x y : ℕ) → Above a → Above b → x ≤ 32 → y ≤ 32 → a ++ (x ∷ s) ≡ b ++ (y ∷ t) → (a ≡ b) × (s ≡ t)
split [] [] s t x y empty empty l k e = (refl, (heads x y s t e).1)
split [] (c ∷ b) s t x y empty (digit h q) l k e = absurd (omega (arith, (heads x c s (b ++ (y ∷ t)) e).0))
split (c ∷ a) [] s t x y (digit h p) empty l k e = absurd (omega (arith, (heads c y (a ++ (x ∷ s)) t e).0))
split (c ∷ a) (d ∷ b) s t x y (digit h p) (digit g q) l k e =
    let f = heads c d (a ++ (x ∷ s)) (b ++ (y ∷ t)) e in
    let r = split a b s t x y p q l k f.1 in
    (rw (f.0, r.0), r.1)

-- a number, and what stands behind it
number : (m n : ℕ) (s t : List ℕ) (x y : ℕ) → m < 2 ^ 64 → n < 2 ^ 64 → x ≤ 32 → y ≤ 32 → decimal m ++ (x ∷ s) ≡ decimal n ++ (y ∷ t) → (m ≡ n) × (s ≡ t)
number m n s t x y a b l k e =
    let r = split (decimal m) (decimal n) s t x y (above-numeral 20 0 m) (above-numeral 20 0 n) l k e in
    (sym (a_decimal_number_is_read_back m a) ∙ ap (number_spelled 10 0) r.0 ∙ a_decimal_number_is_read_back n b, r.1)

-- ## Entries

entry-is : (e : ℕ × ℕ) (s : List ℕ) → entry_text e ++ s ≡ blank ∷ blank ∷ (decimal e.0 ++ (blank ∷ (decimal e.1 ++ (line_end ∷ s))))
entry-is e s = simp append_assoc

pair : (a b : ℕ × ℕ) → a.0 ≡ b.0 → a.1 ≡ b.1 → a ≡ b
pair a b p q = ap (λ (x : ℕ). (x, a.1)) p ∙ ap (λ (y : ℕ). (b.0, y)) q

entries_determine : (es fs : List (ℕ × ℕ)) → Small es → Small fs → entries_text es ≡ entries_text fs → es ≡ fs
unfolding entries_text
entries_determine [] [] u v e = refl
entries_determine [] (f ∷ fs) u v e = absurd (let z : ◌≡◌ {A = ℕ} 0 1 = cc in (omega arith))
entries_determine (d ∷ es) [] u v e = absurd (let z : ◌≡◌ {A = ℕ} 0 1 = cc in (omega arith))
entries_determine (d ∷ es) (f ∷ fs) u v e =
    let w = sym (entry-is d (entries_text es)) ∙ e ∙ entry-is f (entries_text fs) in
    let x = (heads blank blank _ _ (heads blank blank _ _ w).1).1 in
    let k = number d.0 f.0 _ _ blank blank u.0 v.0 (omega arith) (omega arith) x in
    let t = number d.1 f.1 _ _ line_end line_end u.1.0 v.1.0 (omega arith) (omega arith) k.1 in
    rw (pair d f k.0 t.0, entries_determine es fs u.1.1 v.1.1 t.1)

-- ## A field

line-is : (n : ℕ) (s : Said)
    → line_text n s ≡ decimal n ++ (blank ∷ (decimal s.tag ++ (blank ∷ (decimal s.refusal ++ (blank ∷ (decimal s.dropped ++ (line_end ∷ entries_text s.entries)))))))
unfolding line_text field_text
line-is n s = simp append_assoc

pub text_determines : (m n : ℕ) (a b : Said) → Printable m a → Printable n b → line_text m a ≡ line_text n b → (m ≡ n) × (a ≡ b)
text_determines m n a b p q e =
    let w = sym (line-is m a) ∙ e ∙ line-is n b in
    let i = number m n _ _ blank blank p.number q.number (omega arith) (omega arith) w in
    let t = number a.tag b.tag _ _ blank blank p.tag q.tag (omega arith) (omega arith) i.1 in
    let r = number a.refusal b.refusal _ _ blank blank p.refusal q.refusal (omega arith) (omega arith) t.1 in
    let d = number a.dropped b.dropped _ _ line_end line_end p.dropped q.dropped (omega arith) (omega arith) r.1 in
    let s = entries_determine a.entries b.entries p.entries q.entries d.1 in
    (i.0, same t.0 r.0 d.0 s)
  where
    made : ℕ → ℕ → ℕ → List (ℕ × ℕ) → Said
    made t r d es = record { tag = t; refusal = r; dropped = d; entries = es }

    same : a.tag ≡ b.tag → a.refusal ≡ b.refusal → a.dropped ≡ b.dropped → a.entries ≡ b.entries → a ≡ b
    same t r d s =
        ap (λ (x : ℕ). made x a.refusal a.dropped a.entries) t ∙ ap (λ (x : ℕ). made b.tag x a.dropped a.entries) r
        ∙ ap (λ (x : ℕ). made b.tag b.refusal x a.entries) d ∙ ap (λ (x : List (ℕ × ℕ)). made b.tag b.refusal b.dropped x) s
