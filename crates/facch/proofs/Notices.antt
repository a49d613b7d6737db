-- What the readers of a call or a page go by: from what was fetched, and the structs that the callees gave back, to what the grammar reads. Assumes nothing.
use mathlib.Core.Path.{◌≡◌, refl, sym, ap, ap₂, ◌∙◌}
use mathlib.Core.List.{List, [], ◌∷◌}
use mathlib.Core.Bool.{false}
use mathlib.Core.Option.{Option}
use mathlib.Core.Logic.{◌⊎◌, inl, inr}
use Prim.Native.Nat.{ℕ, ◌+◌, ◌-◌, ◌*◌, ◌≤◌, ◌<◌}
use native.Mathlib.Omega.{arith}
use lib.ListN.{length}
use lib.Dec.{eqb}
use borrow.Author.Tests.{le-leb, lt-leb, ne_eqb}
use Rattle.bits.specs.Field.{fetched}
use Rattle.bits.specs.declared.Got.TheVariants.{Bits, Short}
use Rattle.csn1.specs.declared.Refusal.{Refusal}
use Rattle.csn1.specs.declared.Flagged.{Flagged}
use Rattle.csn1.specs.Format.{Res, ok, bad, ◌then◌, ran_out, ground, no_refusal, Format, num, row, opt, either, ◌⨟◌}
use Rattle.csn1.specs.Grammar.{format}
use Rattle.csn1.specs.Promises.{Grounded}
use Rattle.csn1.specs.Told.{read_at_of, flagged_at, flagged_of}
use Rattle.csn1.proofs.Promises.{lawful}
use Rattle.csn1.proofs.Reading.{missing, found, num-got, num-short, either-short, either_left, either-right, read_at}
use Rattle.csn1.proofs.Callees.{flagged-refused, flagged_reached}
use Rattle.csn1.proofs.Answers.{Telling, Answer, answered, unanswered, flags, flag-answered, first-bad, then-bad, then_ok}
use Rattle.call.specs.declared.Call.{Call}
use Rattle.call.specs.declared.CallAt.{CallAt}
use Rattle.call.specs.Call.{CallValue, call_grammar, group_call, no_call}
use Rattle.call.specs.Told.{call_at_of}
use Rattle.facch.specs.declared.Page.{Page}
use Rattle.facch.specs.declared.NotifiedAt.{NotifiedAt}
use Rattle.facch.specs.declared.pages.IdentityAt.{IdentityAt}
use Rattle.facch.specs.declared.pages.PageAt.{PageAt}
use Rattle.facch.specs.Message.{identity, PagingValue, paging}
use Rattle.facch.specs.Told.{no_page}
use Rattle.facch.specs.Inner.{identity_at_of, page_at_of, notified_at_of}
use Rattle.facch.proofs.Numbering.{identity-numbered, paging-numbered}

-- ## The mobile identity

-- the length octet ran out
pub length-short : (s : List ℕ) (p : ℕ) → Short ≡ fetched s p 8 → (format identity).read s p ≡ bad (ran_out p)
length-short s p e = rw (num-short s p 8 (omega arith) e)

-- behind the length octet n
module _ (s : List ℕ) (p n : ℕ) (g : Bits n ≡ fetched s p 8) where
  pub length-low : n < 1 → (format identity).read s p ≡ bad (ground 8)
  length-low l = rw (num-got s p 8 n g, lt-leb 1 n l)

  pub length_high : 9 < n → (format identity).read s p ≡ bad (ground 8)
  length_high l = rw (num-got s p 8 n g, le-leb 1 n (omega arith), lt-leb n 9 l)

  module _ (l : 1 ≤ n) (h : n ≤ 9) where
    octets-next : (format identity).read s p ≡ (row (8 ∷ 8 * (n - 1) ∷ [])).read s (p + 8) then (λ o q. ok (n, o) q)
    octets-next = rw (num-got s p 8 n g, le-leb 1 n l, le-leb n 9 h)

    octets-short : length s * 8 < p + 16 + 8 * (n - 1) → (format identity).read s p ≡ bad (ran_out (p + 8))
    octets-short k = octets-next ∙ rw (lt-leb (p + 8 + (8 + (8 * (n - 1) + 0))) (length s * 8) (omega arith))

    pub rest-short : Short ≡ fetched s (p + 16) (8 * (n - 1)) → (format identity).read s p ≡ bad (ran_out (p + 8))
    rest-short e = octets-short (missing s (p + 16) (8 * (n - 1)) (omega arith) e)

    pub first_short : Short ≡ fetched s (p + 8) 8 → (format identity).read s p ≡ bad (ran_out (p + 8))
    first_short e = octets-short (omega (arith, missing s (p + 8) 8 (omega arith) e))

    pub identity-read : (o f : ℕ) → Bits o ≡ fetched s (p + 16) (8 * (n - 1)) → Bits f ≡ fetched s (p + 8) 8
        → (format identity).read s p ≡ ok (n, f ∷ o ∷ []) (p + 16 + 8 * (n - 1))
    identity-read o f eo ef =
        let a = found s (p + 16) (8 * (n - 1)) o eo in
        let b = found s (p + 8) 8 f ef in
        let k : p + 8 + 8 ≡ p + 16 = omega arith in
        let q : p + 8 + (8 + (8 * (n - 1) + 0)) ≡ p + 16 + 8 * (n - 1) = omega arith in
        octets-next
        ∙ rw (le-leb (p + 8 + (8 + (8 * (n - 1) + 0))) (length s * 8) (omega (arith, a.within)), q, k, ← a.is, ← b.is)

-- ## Paging Information: the identity, channel first, the priority

abbrev identities : Telling (ℕ × List ℕ) IdentityAt
identities = record { of = identity_at_of; refusal = λ i. i.refusal; at = λ i. i.at; fine = λ a q. refl; place = λ a q. refl; why = λ r. refl }

-- what stands behind the identity
abbrev behind : Format (ℕ × Option ℕ)
behind = num 2 ⨟ opt (num 3)

abbrev whole_page : Refusal → IdentityAt → ℕ → Flagged → PageAt
whole_page r i c f =
    record {
      refusal = r;
      page =
          record {
            identityLength = i.length;
            identityFirst = i.first;
            identityRest = i.rest;
            channelFirst = c;
            hasPriority = f.hasValue;
            priority = f.value;
          };
      at = f.at;
    }

module _ (s : List ℕ) (p : ℕ) (l : length s ≤ 4096) (i : IdentityAt) (ei : i ≡ identity_at_of ((format identity).read s p)) where
  pub identity-bad : (i.refusal.number ≡ 0 → ⊥) → (format paging).read s p ≡ bad i.refusal
  identity-bad n = first-bad (format identity) behind s p _ (unanswered identities i ((format identity).read s p) ei n)

  module _ (zi : i.refusal.number ≡ 0) where
    known : Answer identities i ((format identity).read s p)
    known = answered identities i ((format identity).read s p) ei ((lawful identity identity-numbered).grounds s p) zi

    pub channel-short : Short ≡ fetched s i.at 2 → (format paging).read s p ≡ bad (ran_out i.at)
    channel-short e =
        then-bad (format identity) behind s p _ _ _ known.is (first-bad (num 2) (opt (num 3)) s i.at _ (num-short s i.at 2 (omega arith) e))

    module _ (c : ℕ) (ec : Bits c ≡ fetched s i.at 2) (f : Flagged) (ef : f ≡ flagged_of (flagged_at s (i.at + 2) 3)) where
      pub priority-bad : (f.refusal.number ≡ 0 → ⊥) → (format paging).read s p ≡ bad f.refusal
      priority-bad n =
          then-bad (format identity) behind s p _ _ _ known.is
          (then-bad (num 2) (opt (num 3)) s i.at _ _ _ (num-got s i.at 2 c ec) (flagged-refused s (i.at + 2) 3 (omega arith) l f ef n))

      module _ (zf : f.refusal.number ≡ 0) where
        given : Answer flags f ((opt (num 3)).read s (i.at + 2))
        given = flag-answered s (i.at + 2) 3 (omega arith) l f ef zf

        pub priority-small : f.value < 8
        priority-small =
            omega (arith, ap (λ (x : Flagged). x.value) given.told, (flagged_reached s (i.at + 2) 3 given.value f.at given.is).small)

        pub page-told : (r : Refusal) → r ≡ no_refusal → whole_page r i c f ≡ page_at_of ((format paging).read s p)
        page-told r er =
            let all : (format paging).read s p ≡ ok (known.value, (c, given.value)) f.at =
            then_ok (format identity) behind s p _ _ _ _ known.is
            (then_ok (num 2) (opt (num 3)) s i.at _ _ _ _ (num-got s i.at 2 c ec) given.is) in
            ap (λ (w : Refusal). whole_page w i c f) er
            ∙ ap₂ (λ (x : IdentityAt) (y : Flagged). whole_page no_refusal x c y) known.told given.told ∙ sym (ap page_at_of all)

-- ## A call or a page

abbrev pub notified : Format (CallValue ⊎ PagingValue)
notified = either (format call_grammar) (format paging)

-- what the callees gave back, handed on as it is
abbrev paged : Call → PageAt → NotifiedAt
paged c p = record { refusal = p.refusal; paging = eqb p.refusal.number 0; call = c; page = p.page; at = p.at }

abbrev called : CallAt → Page → NotifiedAt
called c p = record { refusal = c.refusal; paging = false; call = c.call; page = p; at = c.at }

paged-told : (x : Res PagingValue) → Grounded x → paged no_call (page_at_of x) ≡ notified_at_of (x then λ v q. ok (inr v) q)
paged-told (ok v q) g = refl
paged-told (bad r) g = rw (ne_eqb r.number 0 (λ e. omega arith))

called-told : (x : Res CallValue) → called (call_at_of x) no_page ≡ notified_at_of (x then λ v q. ok (inl v) q)
called-told (ok v q) = refl
called-told (bad r) = refl

pub branch_short : (s : List ℕ) → Short ≡ fetched s 8 1 → notified.read s 8 ≡ bad (ran_out 8)
branch_short s e = either-short (format call_grammar) (format paging) s 8 e

-- behind the bit that says which
module _ (s : List ℕ) (b : ℕ) (e : Bits b ≡ fetched s 8 1) where
  pub page_notified : (b ≡ 0 → ⊥) → (p : PageAt) → p ≡ page_at_of ((format paging).read s 9) → (c : Call) → c ≡ no_call → paged c p ≡ notified_at_of (notified.read s 8)
  page_notified n p ep c ec =
      ap₂ paged ec ep ∙ paged-told ((format paging).read s 9) ((lawful paging paging-numbered).grounds s 9)
      ∙ sym (ap notified_at_of (either-right (format call_grammar) (format paging) s 8 b e n))

  pub call-notified : b ≡ 0 → length s ≤ 4096 → (c : CallAt) → c ≡ call_at_of (read_at_of group_call s 9) → (p : Page) → p ≡ no_page → called c p ≡ notified_at_of (notified.read s 8)
  unfolding group_call
  call-notified z l c ec p ep =
      ap₂ called (ec ∙ ap call_at_of (read_at group_call s 9 l)) ep ∙ called-told ((format call_grammar).read s 9)
      ∙ sym (ap notified_at_of (either_left (format call_grammar) (format paging) s 8 b e z))
