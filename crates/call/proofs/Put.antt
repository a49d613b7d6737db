-- What a call's writer goes by: its fields, put one behind the other, are its bits. Assumes nothing.
use mathlib.Core.Path.{◌≡◌, refl, sym, ap, ap₂, ◌∙◌}
use mathlib.Core.List.{List, ◌∷◌, ◌++◌}
use mathlib.Core.Bool.{Bool, true, false, not}
use mathlib.Core.Option.{some}
use mathlib.Core.Logic.{inl, inr}
use Prim.Native.Nat.{ℕ, ◌+◌, ◌-◌, ◌*◌, ◌^◌, ◌≤◌, ◌<◌}
use native.Mathlib.Omega.{arith}
use lib.ListN.{length}
use lib.Dec.{leb}
use borrow.Author.Tests.{leb-true, le-leb, lt-leb, not-true, not-false}
use native.Mathlib.Decide.{dec_le}
use mir.Val.{bool_byte}
use Rattle.bits.specs.Field.{both, pick, after_put}
use Rattle.csn1.specs.Format.{num_bits, put_bits, row_bits, when_bits}
use Rattle.csn1.specs.Grammar.{format}
use Rattle.csn1.specs.Told.{there, as_bit}
use Rattle.bits.proofs.Answers.{both_true}
use Rattle.csn1.proofs.Putting.{Laid}
use Rattle.csn1.proofs.Writing.{flag_lt, flag_byte, put_none, put_last, put_then, put_length, num-join, led-join, row-led, glued, glued_lt}
use Rattle.call.specs.declared.Call.{Call}
use Rattle.call.specs.declared.Description.{Description}
use Rattle.call.specs.Call.{group_call, description, frequencies, call_value, description_value, frequencies_of, one_to_eight}
use Rattle.call.specs.Write.{call_in_range, call_is_low, call_length_right, call_hops_right, call_size, can_put_call, after_put_call}
use Rattle.call.specs.Inner.{head_number, Room}
use Rattle.call.proofs.Laws.{widths, when_anywhere, opt_anywhere, frequencies_anywhere, description_anywhere, call_anywhere, frequencies-size, description-size, value-size, size_from, call-size}
use Rattle.call.proofs.Record.{call_fits}

-- ## The frequencies

-- d and e are s after the two parts were put
module _ (s d e : List ℕ) (p n f : ℕ) where
  pub list_put : (t : Bool) → Room (format frequencies) (pick t (inr f) (inl (n, f))) s p → t ≡ true → d ≡ after_put s p 1 1 → e ≡ after_put d (p + 1) 64 f
      → e ≡ put_bits s p ((format frequencies).bits 0 0 (pick t (inr f) (inl (n, f))))
  unfolding num_bits
  list_put false r t x y = absurd (let z : ◌≡◌ {A = ℕ} 0 1 = cc in omega arith)
  list_put true r t x y =
      let w = frequencies-size 0 0 (inr f) in
      let l : p + 65 ≤ length s * 8 = omega (arith, r.enough) in
      put_last d e (p + 1) 64 f y (omega arith) (omega (arith, put_length s d p 1 1 x (omega arith) (omega arith) (omega arith))) r.fits
      ∙ put_then s d p 1 1 x (omega arith) (omega arith) (omega arith) (num_bits 64 f)

  pub octets_put : (t : Bool) → Room (format frequencies) (pick t (inr f) (inl (n, f))) s p → t ≡ false → d ≡ after_put s p 9 n → e ≡ after_put d (p + 9) (8 * n) f
      → e ≡ put_bits s p ((format frequencies).bits 0 0 (pick t (inr f) (inl (n, f))))
  octets_put true r t x y = absurd (let z : ◌≡◌ {A = ℕ} 0 1 = cc in omega arith)
  octets_put false r t x y =
      let w = frequencies-size 0 0 (inl (n, f)) in
      let l : p + 9 + 8 * n ≤ length s * 8 = omega (arith, r.enough) in
      let k : n ≤ 8 = leb-true n 8 (both_true (leb 1 n) (leb n 8) r.fits.0.1).1 in
      let q : 0 ∷ num_bits 8 n ≡ num_bits 9 n = led-join 8 0 n (omega arith) (omega arith) ∙ ap (num_bits 9) (omega arith) in
      put_last d e (p + 9) (8 * n) f y (omega arith) (omega (arith, put_length s d p 9 n x (omega arith) (omega arith) (omega arith))) r.fits.1
      ∙ put_then s d p 9 n x (omega arith) (omega arith) (omega arith) (num_bits (8 * n) f)
      ∙ ap (λ (b : List ℕ). put_bits s p (b ++ num_bits (8 * n) f)) (sym q)

-- ## The description

-- d is s after the channel and the hopping flag were put
module _ (s d : List ℕ) (p : ℕ) (c : Description) (r : Room (format description) (description_value c) s p)
    (x : d ≡ after_put s p 25 (c.channel * 2 + bool_byte c.hopping))
  where
    channel_lt : c.channel * 2 + bool_byte c.hopping < 2 ^ 25
    channel_lt = omega (arith, r.fits.0.0.0, flag_lt c.hopping, flag_byte c.hopping)

    channel-within : p + 25 ≤ length s * 8
    channel-within = omega (arith, r.enough, description-size 0 0 (description_value c))

    pub channel-length : length d ≡ length s
    channel-length = put_length s d p 25 (c.channel * 2 + bool_byte c.hopping) x (omega arith) channel-within channel_lt

    description_put : put_bits d (p + 25) (when_bits (format frequencies) 0 0 (there c.hopping (frequencies_of c))) ≡ put_bits s p ((format description).bits 0 0 (description_value c))
    description_put =
        let b = as_bit c.hopping in
        let o = there c.hopping (frequencies_of c) in
        let e : num_bits 25 (c.channel * 2 + bool_byte c.hopping) ≡ num_bits 24 c.channel ++ num_bits 1 b = ap (λ (k : ℕ). num_bits 25 (c.channel * 2 + k)) (flag_byte c.hopping)
        ∙ num-join 24 1 c.channel b (flag_lt c.hopping) in
        put_then s d p 25 (c.channel * 2 + bool_byte c.hopping) x (omega arith) channel-within channel_lt (when_bits (format frequencies) 0 0 o)
        ∙ ap₂ (λ (a b : List ℕ). put_bits s p (a ++ b)) e (sym (when_anywhere (format frequencies) frequencies_anywhere 0 (0 + length (num_bits 24 c.channel ++ num_bits 1 b)) o))

    pub still_put : c.hopping ≡ false → d ≡ put_bits s p ((format description).bits 0 0 (description_value c))
    still_put e =
        sym (put_none d (p + 25)) ∙ ap (λ (h : Bool). put_bits d (p + 25) (when_bits (format frequencies) 0 0 (there h (frequencies_of c)))) (sym e) ∙ description_put

    pub hopping_put : c.hopping ≡ true → put_bits d (p + 25) ((format frequencies).bits 0 0 (frequencies_of c)) ≡ put_bits s p ((format description).bits 0 0 (description_value c))
    hopping_put e = ap (λ (h : Bool). put_bits d (p + 25) (when_bits (format frequencies) 0 0 (there h (frequencies_of c)))) (sym e) ∙ description_put

    pub frequencies-room : c.hopping ≡ true → Room (format frequencies) (frequencies_of c) d (p + 25)
    frequencies-room = go c.hopping r
      where
        go : (h : Bool) → Room (format description) ((c.channel, as_bit h), there h (frequencies_of c)) s p → h ≡ true → Room (format frequencies) (frequencies_of c) d (p + 25)
        go false r e = absurd (let z : ◌≡◌ {A = ℕ} 0 1 = cc in omega arith)
        go true r e =
            record {
              fits = r.fits.1;
              enough = omega (arith, r.enough, channel-length, description-size 0 0 ((c.channel, 1), some (frequencies_of c)), frequencies-size 0 0 (frequencies_of c));
              few = omega (arith, r.few, channel-length);
            }

-- ## The call

-- d is s after the 36 bits and the flag behind them were put
module _ (s d : List ℕ) (p : ℕ) (c : Call) (r : Room group_call (call_value c) s p) (x : d ≡ after_put s p 37 (head_number c)) where
  head-is : head_number c ≡ glued widths (call_value c).0 * 2 + as_bit c.hasDescription
  head-is = omega arith

  head_lt : head_number c < 2 ^ 37
  unfolding group_call
  head_lt = omega (arith, head-is, glued_lt widths (call_value c).0 r.fits.0.0, flag_lt c.hasDescription)

  head-within : p + 37 ≤ length s * 8
  head-within = omega (arith, r.enough, value-size 0 0 (call_value c) refl)

  pub head-length : length d ≡ length s
  head-length = put_length s d p 37 (head_number c) x (omega arith) head-within head_lt

  call_put : put_bits d (p + 37) (when_bits (format description) 0 0 (there c.hasDescription (description_value c.description))) ≡ put_bits s p (group_call.bits 0 0 (call_value c))
  unfolding group_call
  call_put =
      let l = (call_value c).0 in
      let t = c.hasDescription in
      let bs = when_bits (format description) 0 0 (there t (description_value c.description)) in
      let e : num_bits 37 (head_number c) ++ bs ≡ row_bits widths l ++ (as_bit t ∷ bs) = ap (λ (k : ℕ). num_bits 37 k ++ bs) head-is ∙ sym (row-led widths l (as_bit t) bs r.fits.0.0 (flag_lt t)) in
      put_then s d p 37 (head_number c) x (omega arith) head-within head_lt bs
      ∙ ap (put_bits s p) (e ∙ ap (λ (b : List ℕ). row_bits widths l ++ b)
      (opt_anywhere (format description) description_anywhere 0 (0 + length (row_bits widths l)) t (description_value c.description)))

  pub plain_put : c.hasDescription ≡ false → d ≡ put_bits s p (group_call.bits 0 0 (call_value c))
  plain_put e =
      sym (put_none d (p + 37))
      ∙ ap (λ (t : Bool). put_bits d (p + 37) (when_bits (format description) 0 0 (there t (description_value c.description)))) (sym e)
      ∙ call_put

  pub described_put : c.hasDescription ≡ true → put_bits d (p + 37) ((format description).bits 0 0 (description_value c.description)) ≡ put_bits s p (group_call.bits 0 0 (call_value c))
  described_put e = ap (λ (t : Bool). put_bits d (p + 37) (when_bits (format description) 0 0 (there t (description_value c.description)))) (sym e) ∙ call_put

  pub description-room : c.hasDescription ≡ true → Room (format description) (description_value c.description) d (p + 37)
  unfolding group_call
  description-room = go c.hasDescription r
    where
      go : (t : Bool) → Room group_call ((call_value c).0, there t (description_value c.description)) s p → t ≡ true → Room (format description) (description_value c.description) d (p + 37)
      go false r e = absurd (let z : ◌≡◌ {A = ℕ} 0 1 = cc in omega arith)
      go true r e =
          record {
            fits = r.fits.1;
            enough = omega (arith, r.enough, head-length, value-size 0 0 ((call_value c).0, some (description_value c.description)) refl, description-size 0 0 (description_value c.description));
            few = omega (arith, r.few, head-length);
          }

-- ## What is answered

pub room-left : (n p k : ℕ) → p ≤ n → leb k (n - p) ≡ leb (p + k) n
room-left n p k h = go (dec_le (p + k) n)
  where
    go : Dec (p + k ≤ n) → leb k (n - p) ≡ leb (p + k) n
    go (yes l) = le-leb k (n - p) (omega arith) ∙ sym (le-leb (p + k) n l)
    go (no l) = lt-leb k (n - p) (omega arith) ∙ sym (lt-leb (p + k) n (omega arith))

-- t says that the call can be written, u that the octets have its k bits
module _ (s : List ℕ) (p : ℕ) (c : Call) (t u : Bool) (k : ℕ) (x : t ≡ both (call_in_range c) (both (call_is_low c) (both (call_length_right c) (call_hops_right c))))
    (y : u ≡ both (leb (length s) 4096) (leb (p + k) (length s * 8))) (z : k ≡ call_size c)
  where
    can : can_put_call s p c ≡ both t u
    unfolding can_put_call
    can = rw (x, y, z)

    refused : both t u ≡ false → (false ≡ can_put_call s p c) × (s ≡ after_put_call s p c)
    unfolding after_put_call
    refused e = rw (can, e) ((refl, refl))

    pub put_full : not t ≡ false → not u ≡ true → (false ≡ can_put_call s p c) × (s ≡ after_put_call s p c)
    put_full e f = refused (rw (not-false t e, not-true u f))

    pub put_room : not t ≡ false → not u ≡ false → Room group_call (call_value c) s p
    unfolding call_size
    put_room e f =
        let a = both_true (call_in_range c) _ (sym x ∙ not-false t e) in
        let b = both_true (call_is_low c) _ a.1 in
        let d = both_true (call_length_right c) (call_hops_right c) b.1 in
        let g = both_true (leb (length s) 4096) (leb (p + k) (length s * 8)) (sym y ∙ not-false u f) in
        record {
          fits = call_fits c a.0 b.0 d.0 d.1;
          enough = omega (arith, leb-true (p + k) (length s * 8) g.1);
          few = leb-true (length s) 4096 g.0;
        }

    pub put_done : not t ≡ false → not u ≡ false → (d : List ℕ) → d ≡ put_bits s p (group_call.bits 0 0 (call_value c))
        → (true ≡ can_put_call s p c) × (d ≡ after_put_call s p c)
    unfolding after_put_call
    put_done e f d h = rw (can, not-false t e, not-false u f) ((refl, h))

pub put_wrong : (s : List ℕ) (p : ℕ) (c : Call) (t : Bool) → t ≡ both (call_in_range c) (both (call_is_low c) (both (call_length_right c) (call_hops_right c))) → not t ≡ true
    → (false ≡ can_put_call s p c) × (s ≡ after_put_call s p c)
put_wrong s p c t x e =
    refused s p c t (both (leb (length s) 4096) (leb (p + call_size c) (length s * 8))) (call_size c) x refl refl (rw (not-true t e))

-- ## Behind other parts

-- no test refuses the call
module _ (c : Call) (r : both (call_in_range c) (both (call_is_low c) (both (call_length_right c) (call_hops_right c))) ≡ true) where
  -- it was put at p
  pub call-laid : {n : ℕ} (b d : List ℕ) (p : ℕ) → length b * 8 ≡ n → length b ≤ 4096 → d ≡ after_put_call b p c
      → Laid n p (group_call.bits n p (call_value c)) (p + call_size c) b d
  unfolding call_size can_put_call after_put_call
  call-laid {n} b d p s l e =
      record {
        next = ap (λ (x : List ℕ). p + length x) (sym (call_anywhere n p (call_value c)));
        same =
            λ h.
            e ∙ rw (r, le-leb (length b) 4096 l, le-leb (p + length (group_call.bits 0 0 (call_value c))) (length b * 8) (omega arith))
            (ap (put_bits b p) (sym (call_anywhere n p (call_value c))));
      }

  pub call-short : call_size c ≤ 135
  unfolding call_length_right
  call-short =
      let a = both_true (call_in_range c) _ r in
      let b = both_true (call_is_low c) _ a.1 in
      rw (call-size c) (go c.hasDescription c.description.hopping c.description.shortlist (both_true (call_length_right c) (call_hops_right c) b.1).0)
    where
      go : (d h s : Bool) → pick (both d (both h (not s))) (one_to_eight c.description.length) true ≡ true → size_from d h s c.description.length ≤ 135
      go false h s e = omega arith
      go true false s e = omega arith
      go true true true e = omega arith
      go true true false e =
          let n = c.description.length in
          omega (arith, leb-true n 8 (both_true (leb 1 n) (leb n 8) e).1)
