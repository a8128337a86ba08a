-- What a call leaves behind that opens or restores a hash, feeds or takes it, and stores it again: each may refuse, in turn, and only where none does
-- is anything written. Said of any kind of hash. What the definitions give is a, b for refusals, h for a hash and v for a number; what the code
-- has is r, s, g and u.
use mathlib.Core.List.{List}
use mathlib.Core.Path.{◌≡◌, refl, sym, ap, ◌∙◌}
use Prim.Native.Nat.{ℕ}
use Rattle.std.specs.Prelude.{Ok, Err}
use Rattle.refusals.specs.declared.Refusal.{Refusal}
use Rattle.refusals.specs.Numbers.{number}
use Rattle.refusals.proofs.Numbers.{refused_not_0}
use Rattle.hash.specs.Open.{Opened, first, written, opened_by}
use Rattle.hash.proofs.Refusing.{first_refused, first_accepted, written_refused, stored_refused, stored_accepted}
use Rattle.hash.specs.Form.{Stored, form_of, store_answer, store_refusal}
use Rattle.hash.specs.declared.Hash.{Hash}
use Rattle.simd_c_forms.specs.Calls.{stored, opened_call}

-- A call that answers n, no 0, leaves bytes and number as they were; one that answers 0 puts the new number.
module _ {call n : ℕ} (e : n ≡ call) where
  keeps_bytes : (n ≡ 0 → ⊥) → (bytes out : List ℕ) → out ≡ written call bytes out
  keeps_bytes some bytes out = sym (written_refused call bytes out (λ z. some (e ∙ z)))

  keeps_number : (n ≡ 0 → ⊥) → (new old : ℕ) → old ≡ stored call new old
  keeps_number some new old = sym (stored_refused call new old (λ z. some (e ∙ z)))

  puts_number : n ≡ 0 → {u v : ℕ} (old : ℕ) → u ≡ v → u ≡ stored call v old
  puts_number none {u} {v} old same = same ∙ sym (stored_accepted call v old (sym e ∙ none))

-- The refusals in turn.
turn_first : {r a : ℕ} → r ≡ a → (r ≡ 0 → ⊥) → (b : ℕ) → r ≡ first a b
turn_first {r} {a} e some b = e ∙ sym (first_refused a b (λ z. some (e ∙ z)))

turn_next : {r a b c : ℕ} → r ≡ a → r ≡ 0 → c ≡ b → c ≡ first a b
turn_next {r} {a} {b} {c} e none f = f ∙ sym (first_accepted a b (sym e ∙ none))

-- A step, and then another, of which only a number is told.
module _ {r a : ℕ} (answer : r ≡ a) (b v old : ℕ) where
  abbrev pub Tells : ℕ → ℕ → Type 0
  Tells n number = (n ≡ first a b) × (number ≡ stored (first a b) v old)

  pub unread : (r ≡ 0 → ⊥) → Tells r old
  unread some = let e = turn_first answer some b in (e, keeps_number e some v old)

  module _ (none : r ≡ 0) {n : ℕ} (asked : n ≡ b) where
    pub untold : (n ≡ 0 → ⊥) → Tells n old
    untold some = let e = turn_next answer none asked in (e, keeps_number e some v old)

    pub told : n ≡ 0 → {u : ℕ} → u ≡ v → Tells 0 u
    told zero same = let e = turn_next answer none asked in (sym zero ∙ e, puts_number e zero old same)

-- A step, and then bytes of the hash that it gives, unless they are refused; and with them a number.
module _ {H : Type 0} (refusal : H → ℕ) (bytes : H → List ℕ) (out : List ℕ) (h : H) {r a : ℕ} (answer : r ≡ a) where
  abbrev call : ℕ
  call = first a (refusal h)

  abbrev pub Writes : ℕ → List ℕ → Type 0
  Writes n left = (n ≡ call) × (left ≡ written call (bytes h) out)

  pub step_refused : (r ≡ 0 → ⊥) → Writes r out
  step_refused some = let e = turn_first answer some (refusal h) in (e, keeps_bytes e some (bytes h) out)

  module _ (none : r ≡ 0) {g : H} (hash : g ≡ h) {n : ℕ} {left : List ℕ} (asked : n ≡ refusal g) (wrote : left ≡ written (refusal g) (bytes g) out) where
    pub then_written : Writes n left
    then_written =
        let e : refusal g ≡ call = turn_next answer none (ap refusal hash) in
        (asked ∙ e, wrote ∙ (λ i. written (e i) (bytes (hash i)) out))

  module _ (v old : ℕ) where
    abbrev pub Takes : ℕ → List ℕ → ℕ → Type 0
    Takes n left number = (n ≡ call) × ((left ≡ written call (bytes h) out) × (number ≡ stored call v old))

    pub number_kept : {n : ℕ} {left : List ℕ} → Writes n left → (n ≡ 0 → ⊥) → Takes n left old
    number_kept w some = (w.0, (w.1, keeps_number w.0 some v old))

    pub number_put : {n : ℕ} {left : List ℕ} → Writes n left → n ≡ 0 → {u : ℕ} → u ≡ v → Takes 0 left u
    number_put w zero same = (sym zero ∙ w.0, (w.1, puts_number w.0 zero old same))

-- Two steps, the form of the hash that the second gives, and a number.
module _ {H : Type 0} (refusal : H → ℕ) (bytes : H → List ℕ) (form : List ℕ) (h : H) (v old : ℕ) {r a : ℕ} (b : ℕ) (answer : r ≡ a) where
  abbrev last_call : ℕ
  last_call = first a (first b (refusal h))

  abbrev pub Feeds : ℕ → List ℕ → ℕ → Type 0
  Feeds n left number = (n ≡ last_call) × ((left ≡ written last_call (bytes h) form) × (number ≡ stored last_call v old))

  kept : {n : ℕ} → n ≡ last_call → (n ≡ 0 → ⊥) → Feeds n form old
  kept e some = (e, (keeps_bytes e some (bytes h) form, keeps_number e some v old))

  pub first_refuses : (r ≡ 0 → ⊥) → Feeds r form old
  first_refuses some = kept (turn_first answer some _) some

  module _ (none : r ≡ 0) {s : ℕ} (second : s ≡ b) where
    pub second_refuses : (s ≡ 0 → ⊥) → Feeds s form old
    second_refuses some = kept (turn_next answer none (turn_first second some _)) some

    module _ (accepted : s ≡ 0) {g : H} (hash : g ≡ h) {n : ℕ} {left : List ℕ} (asked : n ≡ refusal g) (wrote : left ≡ written (refusal g) (bytes g) form) where
      last : refusal g ≡ last_call
      last = turn_next answer none (turn_next second accepted (ap refusal hash))

      filled : left ≡ written last_call (bytes h) form
      filled = let e = last in wrote ∙ (λ i. written (e i) (bytes (hash i)) form)

      pub no_room : (n ≡ 0 → ⊥) → Feeds n left old
      no_room some = let e = asked ∙ last in (e, (filled, keeps_number e some v old))

      pub all_done : n ≡ 0 → {u : ℕ} → u ≡ v → Feeds 0 left u
      all_done zero same = let e = asked ∙ last in (sym zero ∙ e, (filled, puts_number e zero old same))

-- An answer with a hash: refused, or stored.
abbrev Stores : Opened → List ℕ → ℕ → List ℕ → Type 0
Stores o out n left = (n ≡ opened_call o out) × (left ≡ written (opened_call o out) (form_of o.hash) out)

module _ {o : Opened} (out : List ℕ) where
  pub opened_refused : (r : Refusal) → opened_by (Err r) ≡ o → Stores o out (number r) out
  unfolding store_answer
  opened_refused r e =
      step_refused (λ (h : Hash). store_refusal h out) form_of out o.hash (ap (λ (o : Opened). o.refusal) e) (refused_not_0 r (number r) refl)

  pub opened_stored : {h : Hash} → opened_by (Ok h) ≡ o → {n : ℕ} {left : List ℕ} → record { hash = h; refusal = n } ≡ store_answer h out
      → left ≡ written (store_refusal h out) (form_of h) out → Stores o out n left
  unfolding store_answer
  opened_stored e asked wrote =
      then_written (λ (h : Hash). store_refusal h out) form_of out o.hash (ap (λ (o : Opened). o.refusal) e) refl (ap (λ (o : Opened). o.hash) e)
      (ap (λ (s : Stored). s.refusal) asked) wrote
