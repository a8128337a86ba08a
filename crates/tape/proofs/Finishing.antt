-- The digest of a TAKE: taken into local bytes, and from there written to the output.
use mathlib.Core.Bool.{cond}
use mathlib.Core.List.{List, ◌++◌, append_assoc}
use mathlib.Core.Path.{◌≡◌, sym, ap, ◌∙◌}
use Prim.Native.Nat.{ℕ, ◌+◌, ◌≤◌, ◌<◌}
use native.Mathlib.Nat.{zero-add}
use native.Mathlib.Omega.{arith}
use native.Mathlib.Decide.{dec_le}
use borrow.Author.Tests.{le-leb, lt-leb}
use lib.Dec.{leb}
use lib.ListN.{length, take, drop, length-take}
use lib.Seq.{length-take-le, take_at}
use Rattle.simd.specs.Basic.{digest_bytes}
use Rattle.simd.specs.Hash.{digest}
use Rattle.hash.specs.Open.{Taken as Answer, digest_of, take_refusal, taken, take_answer, written}
use Rattle.hash.specs.declared.Hash.{Hash}
use Rattle.hash.proofs.Digests.{digest_length, digest_bounds}
use Rattle.hash_theorems.proofs.Theorems.{after_digest}
use Rattle.text.specs.Text.{over}
use Rattle.text.proofs.Over.{over_nil}
use Rattle.commands.specs.Standing.{Stands}
use Rattle.commands.proofs.Standings.{stands_width, stands_legal}
use Rattle.tape.specs.Standing.{Finishes}
use Rattle.tape.specs.declared.Next.TheVariants.{Taken, Ended}

module _ {width : ℕ} {m : List ℕ} {hash : Hash} (s : Stands width m hash) where
  stands_digest : digest_of hash ≡ digest width m
  stands_digest = ap digest_of s.same ∙ after_digest width s.known m s.bits

  digest_size : length (digest width m) ≡ digest_bytes width
  digest_size = ap length (sym stands_digest) ∙ digest_length hash (stands_legal s) ∙ ap digest_bytes (stands_width s)

  module _ (out : List ℕ) where
    fits_refusal : digest_bytes width ≤ length out → take_refusal hash out ≡ 0
    unfolding take_refusal
    fits_refusal room =
        let fits : digest_bytes hash.width ≤ length out = rw (stands_width s) room in
        rw (stands_legal s, le-leb (digest_bytes hash.width) (length out) fits)

    short_refusal : length out < digest_bytes width → take_refusal hash out ≡ 6
    unfolding take_refusal
    short_refusal short =
        let none : length out < digest_bytes hash.width = rw (stands_width s) short in
        rw (stands_legal s, lt-leb (digest_bytes hash.width) (length out) none)

    take_fits :
        digest_bytes width ≤ length out
        → ((take_answer hash out).refusal ≡ 0) × (written (take_refusal hash out) (digest_of hash) out ≡ over out 0 (digest width m))
    unfolding take_answer taken written
    take_fits room = (
      rw (fits_refusal room),
      rw (fits_refusal room, stands_digest, zero-add (length (digest width m))),
    )

    take_short : length out < digest_bytes width → (take_answer hash out).refusal ≡ 6
    unfolding take_answer taken
    take_short short = rw (short_refusal short)

-- A digest taken into the first `size` bytes of a room of 64, and `part`, what they then are, written to the output.
pub record Copied (hash : Hash) (out exit : List ℕ) (a : Answer) : Type 0 where
  pub room : List ℕ
  pub part : List ℕ
  pub size : ℕ
  pub long : 64 ≡ length room
  pub small : size ≤ 64
  pub fit :
      digest_bytes hash.width ≤ 64
      → size ≡ cond (leb (digest_bytes hash.width) (length out)) (digest_bytes hash.width) 0
  pub answer : a ≡ take_answer hash (take size room)
  pub took : part ≡ written (take_refusal hash (take size room)) (digest_of hash) (take size room)
  pub wrote : exit ≡ over out 0 (take size (part ++ drop size room))

module _ {hash : Hash} {out exit : List ℕ} {a : Answer} (copied : Copied hash out exit a) where
  module _ {w : ℕ} {m : List ℕ} (st : Stands w m hash) where
    sized : (digest_bytes w ≤ 64) × (8 ≤ digest_bytes w)
    sized = digest_bounds w st.known

    number : a.refusal ≡ (take_answer hash (take copied.size copied.room)).refusal
    number = ap (λ (t : Answer). t.refusal) copied.answer

    size_is : copied.size ≡ cond (leb (digest_bytes w) (length out)) (digest_bytes w) 0
    size_is =
        let same : digest_bytes hash.width ≡ digest_bytes w = ap digest_bytes (stands_width st) in
        copied.fit (omega (arith, sized.0)) ∙ ap (λ (v : ℕ). cond (leb v (length out)) v 0) same

    fits : digest_bytes w ≤ length out → (a.refusal ≡ 0) × (exit ≡ over out 0 (digest w m))
    fits enough =
        let size = copied.size in
        let front = take size copied.room in
        let n : size ≡ digest_bytes w = size_is ∙ rw (le-leb (digest_bytes w) (length out) enough) in
        let local : length front ≡ digest_bytes w = length-take-le size copied.room (omega (arith, copied.small, copied.long)) ∙ n in
        let t = take_fits st front (omega arith) in
        let d = digest w m in
        let whole : take size (d ++ drop (0 + length d) front ++ drop size copied.room) ≡ d =
        ap (take size) (append_assoc d (drop (0 + length d) front) (drop size copied.room)) ∙ take_at d _ size (digest_size st ∙ sym n) in (
          number ∙ t.0,
          copied.wrote ∙ ap (over out 0) (ap (λ (l : List ℕ). take size (l ++ drop size copied.room)) (copied.took ∙ t.1) ∙ whole),
        )

    short : length out < digest_bytes w → (a.refusal ≡ 6) × (exit ≡ out)
    short less =
        let size = copied.size in
        let n : size ≡ 0 = size_is ∙ rw (lt-leb (digest_bytes w) (length out) less) in
        let t = take_short st (take size copied.room) (omega (arith, length-take size copied.room, sized.1)) in (
          number ∙ t,
          copied.wrote ∙ ap (λ (k : ℕ). over out 0 (take k (copied.part ++ drop size copied.room))) n ∙ over_nil out 0,
        )

  pub finish_none : (at : ℕ) → (a.refusal ≡ 0 → ⊥) → Finishes hash at out exit (Ended 6 at)
  finish_none at refused w m st =
      elim (dec_le (digest_bytes w) (length out)) [
        | yes enough ↦ absurd (refused (fits st enough).0)
        | no not ↦
            let less : length out < digest_bytes w = omega arith in
            let t = lt-leb (digest_bytes w) (length out) less in
            record { answer = rw t; buffer = rw t (short st less).1 }
      ]

  pub finish_some : (at : ℕ) → a.refusal ≡ 0 → Finishes hash at out exit (Taken hash.width (at + 1))
  finish_some at accepted w m st =
      elim (dec_le (digest_bytes w) (length out)) [
        | yes enough ↦
            let t = le-leb (digest_bytes w) (length out) enough in
            record { answer = rw (t, stands_width st); buffer = rw t (fits st enough).1 }
        | no not ↦
            let six : ◌≡◌ {A = ℕ} 0 6 = sym accepted ∙ (short st (omega arith)).0 in
            absurd (omega arith)
      ]
