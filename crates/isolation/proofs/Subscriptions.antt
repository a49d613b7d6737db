-- Answers under more subscriptions: what the receivers of the single calls give does not know the other keys. Assumes nothing.
use mathlib.Core.Path.{◌≡◌, refl, sym, ap, ap₂, ◌∙◌}
use mathlib.Core.List.{List, [], ◌∷◌, map}
use mathlib.Core.Bool.{true, false}
use Prim.Native.Nat.{ℕ, zero, suc}
use lib.ListN.{length, take, get_or}
use borrow.Author.Tests.{ltb-true, lt-ltb}
use Rattle.bits.specs.Field.{pick}
use Rattle.csn1.specs.Format.{no_refusal}
use Rattle.csn1.specs.Told.{padded}
use Rattle.receiver.specs.declared.Record.{Record}
use Rattle.receiver.specs.declared.Told.{Told}
use Rattle.receiver.specs.declared.Setup.{Setup}
use Rattle.receiver.specs.Halving.{first_of}
use Rattle.receiver.specs.Model.{key_of, map_at}
use Rattle.receiver.specs.Step.{Event, no_told}
use Rattle.receiver.proofs.Cases.{by-test}
use Rattle.isolation.specs.One.{Said, accepts}
use Rattle.isolation.specs.Calls.{event_entries, last_tick, paged_in, subscribed, named, not_ours_of, set_under, laid_out, Reply, said_under, toldTo, reply_by}
use Rattle.isolation.specs.Subscriptions.{Within, is_new, blank_new, blanked}
use Rattle.isolation.specs.Promises.{entry_no, SameAnswers}

-- ## Lists of places

map-padded : {A B : Type 0} (f : A → B) (z : A) (n : ℕ) (l : List A) → map f (padded z n l) ≡ padded (f z) n (map f l)
map-padded f z zero l = refl
map-padded f z (suc n) [] = ap (λ m. f z ∷ m) (map-padded f z n [])
map-padded f z (suc n) (a ∷ l) = ap (λ m. f a ∷ m) (map-padded f z n l)

get_d_map : {A B : Type 0} (f : A → B) (l : List A) (j : ℕ) (z : A) → get_or (map f l) j (f z) ≡ f (get_or l j z)
get_d_map f [] zero z = refl
get_d_map f [] (suc j) z = refl
get_d_map f (a ∷ l) zero z = refl
get_d_map f (a ∷ l) (suc j) z = get_d_map f l j z

-- entries as they are told to the calls, each changed in the same way
module _ (f : Told → Told) where
  laid : (l m : List Told) → map f l ≡ map f m → map f (laid_out l) ≡ map f (laid_out m)
  laid l m q = map-padded f no_told 9 l ∙ ap (padded (f no_told) 9) q ∙ sym (map-padded f no_told 9 m)

  each : (g h : ℕ → Record → Told) → ((k : ℕ) (x : Record) → f (g k x) ≡ f (h k x)) → (k : ℕ) (xs : List Record) → map f (map_at g k xs) ≡ map f (map_at h k xs)
  each g h q k [] = refl
  each g h q k (x ∷ xs) = ap₂ (λ (y : Told) (ys : List Told). y ∷ ys) (q k x) (each g h q (suc k) xs)

-- ## Two setups

module _ (keys groups more others : List ℕ) (w : Within keys groups more others) where
  -- what an entry is told: the same under a key of the first, blank under a new one, 0 under one of neither
  same-blank : (key : ℕ) (v : ℕ → Said)
      → blank_new keys more (named key (pick (subscribed keys key) (v (set_under keys groups key)) not_ours_of))
      ≡ blank_new keys more (named key (pick (subscribed more key) (v (set_under more others key)) not_ours_of))
  same-blank key v =
      by-test (subscribed keys key)
      (λ p.
      let u = w key (ltb-true (first_of keys key) (length keys) p) in
      rw (p, lt-ltb (first_of more key) (length more) u.0) (ap (λ (n : ℕ). named key (v n)) u.1))
      (λ p. rw p (by-test (subscribed more key) (λ q. rw q) (λ q. rw q)))

  module _ (s : Setup) (es : List Event) (e : Event) where
    abbrev told : List ℕ → List ℕ → List Told
    told ks gs = map_at (λ i x. toldTo s es e ks gs (take i (event_entries e)) x) 0 (event_entries e)

    same-told : map (blank_new keys more) (laid_out (told keys groups)) ≡ map (blank_new keys more) (laid_out (told more others))
    same-told =
        laid (blank_new keys more) (told keys groups) (told more others)
        (each (blank_new keys more) _ _ (λ k x. same-blank (key_of x.call) (λ n. said_under s es e (key_of x.call) n (take k (event_entries e)) x)) 0 (event_entries e))

    pub same-reply : blanked keys more (reply_by s es e keys groups) ≡ blanked keys more (reply_by s es e more others)
    unfolding reply_by
    same-reply =
        by-test (accepts (last_tick s es) e)
        (λ p.
        rw p
        (ap (λ (l : List Told). record { refusal = no_refusal; expired = 0; dropped = 0; count = length (event_entries e); entries = l; paged = paged_in e.happening })
        same-told))
        (λ p. rw p)

-- ## One setup: under a key that is none of its own, 0 is told

module _ (s : Setup) (es : List Event) (e : Event) (keys groups : List ℕ) where
  abbrev Unheard : Told → Type 0
  Unheard t = subscribed keys t.key ≡ false → t.number ≡ 0

  unheard_in : (k n : ℕ) (xs all : List Record) (j : ℕ) → Unheard (get_or (padded no_told n (map_at (λ i x. toldTo s es e keys groups (take i all) x) k xs)) j no_told)
  unheard_in k zero xs all zero = λ p. refl
  unheard_in k zero xs all (suc j) = λ p. refl
  unheard_in k (suc n) [] all zero = λ p. refl
  unheard_in k (suc n) [] all (suc j) = unheard_in k n [] all j
  unheard_in k (suc n) (x ∷ xs) all zero = λ p. rw p
  unheard_in k (suc n) (x ∷ xs) all (suc j) = unheard_in (suc k) n xs all j

  pub unheard : (j : ℕ) → Unheard (entry_no (reply_by s es e keys groups) j)
  unfolding reply_by
  unheard j =
      by-test (accepts (last_tick s es) e)
      (λ p. rw p (unheard_in 0 9 (event_entries e) (event_entries e) j))
      (λ p. rw p (unheard_in 0 9 [] [] j))

-- ## From the equation to document 02's words

module _ (keys more : List ℕ) (a b : Reply) (q : blanked keys more a ≡ blanked keys more b) where
  blank-at : (j : ℕ) → blank_new keys more (entry_no a j) ≡ blank_new keys more (entry_no b j)
  blank-at j =
      sym (get_d_map (blank_new keys more) a.entries j no_told)
      ∙ ap (λ (y : Reply). get_or y.entries j (blank_new keys more no_told)) q
      ∙ get_d_map (blank_new keys more) b.entries j no_told

  key-stays : (t : Told) → (blank_new keys more t).key ≡ t.key
  key-stays t = by-test (is_new keys more t.key) (λ p. rw p) (λ p. rw p)

  same_key : (j : ℕ) → (entry_no a j).key ≡ (entry_no b j).key
  same_key j = sym (key-stays (entry_no a j)) ∙ ap (λ (t : Told). t.key) (blank-at j) ∙ key-stays (entry_no b j)

  not_new : (t : Told) → is_new keys more t.key ≡ false → blank_new keys more t ≡ t
  not_new t p = rw p

  same_at : (j : ℕ) → is_new keys more (entry_no a j).key ≡ false → entry_no a j ≡ entry_no b j
  same_at j p = sym (not_new (entry_no a j) p) ∙ blank-at j ∙ not_new (entry_no b j) (ap (is_new keys more) (sym (same_key j)) ∙ p)

  old-key : (key : ℕ) → subscribed keys key ≡ true → is_new keys more key ≡ false
  old-key key p = rw p (by-test (subscribed more key) (λ r. rw r) (λ r. rw r))

  pub in_words : ((j : ℕ) → subscribed more (entry_no b j).key ≡ false → (entry_no b j).number ≡ 0) → SameAnswers keys more a b
  in_words n =
      record {
        refused = ap (λ (y : Reply). y.refusal) q;
        counted = ap (λ (y : Reply). y.count) q;
        keyed = same_key;
        told = λ j p. same_at j (old-key (entry_no a j).key p);
        unheard =
            λ j p.
            let r : entry_no a j ≡ entry_no b j = same_at j (rw p) in
            (ap (λ (t : Told). t.number) r ∙ n j (ap (λ (t : Told). subscribed more t.key) (sym r) ∙ p), r);
        paging = ap (λ (y : Reply). y.paged) q;
      }
