-- What holds of the two hashes of a keyed one, and of a hash that was fed a block.
use mathlib.Core.Bool.{true, false}
use mathlib.Core.List.{List}
use mathlib.Core.Path.{◌≡◌, refl, ap, ◌∙◌}
use Prim.Native.Nat.{ℕ, ◌*◌, ◌<◌, ◌≤◌}
use native.Mathlib.Omega.{arith}
use borrow.Author.Tests.{eqb-true, eq-eqb, leb-true, le-leb, lt-leb}
use lib.Dec.{eqb, leb}
use lib.ListN.{length}
use Rattle.std.specs.Prelude.{Result, Ok, Err, IsOk}
use Rattle.simd.specs.Basic.{is_width, block_bits}
use Rattle.bits.proofs.Zeros.{and_left, and_right}
use Rattle.refusals.specs.declared.Refusal.{Refusal}
use Rattle.hash.specs.Open.{Opened, Fed, Taken, family, legal, holding, open_answer, opened_by, feed_answer, fed_by, taken_by, advanced}
use Rattle.hash.specs.declared.Hash.{Hash}
use Rattle.hash.proofs.Feeding.{fed_whole}
use Rattle.hash_theorems.proofs.Theorems.{open_known, first_legal}
use Rattle.hmac_key.proofs.Bytes.{whole_bytes, message_bytes, not_0}
use Rattle.hmac_parts.specs.Keyed.{begun, keyed}

pub record IsKeyed (inner outer : Hash) : Type 0 where
  pub inner_legal : legal inner ≡ true
  pub outer_legal : legal outer ≡ true
  pub one_width : outer.width ≡ inner.width
  pub long : block_bits (family inner) ≤ inner.bits
  pub exact : outer.bits ≡ block_bits (family inner)

module _ (inner outer : Hash) where
  pub keyed_facts : keyed inner outer ≡ true → IsKeyed inner outer
  unfolding keyed
  keyed_facts good =
      let b = and_right (legal inner) _ good in
      let c = and_right (legal outer) _ b in
      let d = and_right (eqb outer.width inner.width) _ c in
      record {
        inner_legal = and_left (legal inner) _ good;
        outer_legal = and_left (legal outer) _ b;
        one_width = eqb-true outer.width inner.width (and_left (eqb outer.width inner.width) _ c);
        long = leb-true (block_bits (family inner)) inner.bits (and_left (leb (block_bits (family inner)) inner.bits) _ d);
        exact = eqb-true outer.bits (block_bits (family inner)) (and_right (leb (block_bits (family inner)) inner.bits) _ d);
      }

  pub keyed_of : IsKeyed inner outer → keyed inner outer ≡ true
  unfolding keyed
  keyed_of k =
      rw (
        k.inner_legal,
        k.outer_legal,
        eq-eqb outer.width inner.width k.one_width,
        le-leb (block_bits (family inner)) inner.bits k.long,
        eq-eqb outer.bits (block_bits (family inner)) k.exact,
      )

  -- One law for each test that fails.
  pub inner_illegal : legal inner ≡ false → false ≡ keyed inner outer
  unfolding keyed
  inner_illegal bad = rw bad

  module _ (one : legal inner ≡ true) where
    pub outer_illegal : legal outer ≡ false → false ≡ keyed inner outer
    unfolding keyed
    outer_illegal bad = rw (one, bad)

    module _ (two : legal outer ≡ true) where
      pub other_width : eqb outer.width inner.width ≡ false → false ≡ keyed inner outer
      unfolding keyed
      other_width bad = rw (one, two, bad)

      module _ (same : outer.width ≡ inner.width) where
        pub too_short : inner.bits < block_bits (family inner) → false ≡ keyed inner outer
        unfolding keyed
        too_short short =
            rw (one, two, eq-eqb outer.width inner.width same, lt-leb (block_bits (family inner)) inner.bits short)

        pub length_decides : (block : ℕ) → block ≡ block_bits (family inner) → block_bits (family inner) ≤ inner.bits
            → eqb outer.bits block ≡ keyed inner outer
        unfolding keyed
        length_decides block e enough =
            rw (one, two, eq-eqb outer.width inner.width same, le-leb (block_bits (family inner)) inner.bits enough, e)

-- An answer with the refusal 0 is Ok, and the hash after a feed stands in it either way.
pub opened_ok : (r : Result Hash Refusal) → (opened_by r).refusal ≡ 0 → IsOk r
opened_ok (Ok h) none = refl
opened_ok (Err r) none = absurd (not_0 r none)

pub fed_ok : (h : Hash) (r : Result ℕ Refusal) → (fed_by h r).refusal ≡ 0 → IsOk r
fed_ok h (Ok n) none = refl
fed_ok h (Err r) none = absurd (not_0 r none)

pub taken_ok : (h : Hash) (r : Result ℕ Refusal) → (taken_by h r).refusal ≡ 0 → IsOk r
taken_ok h (Ok n) none = refl
taken_ok h (Err r) none = absurd (not_0 r none)

pub fed_hash : (h : Hash) (r : Result ℕ Refusal) → h ≡ (fed_by h r).hash
fed_hash h (Ok n) = refl
fed_hash h (Err r) = refl

-- A feed of whole bytes to the hash of a known width.
pub fed_block : (width : ℕ) → is_width width ≡ true → (block : List ℕ) → length block ≤ 128 → {o : Opened} {f : Fed} → o ≡ open_answer width
    → f ≡ feed_answer o.hash block (8 * length block) → (f.hash ≡ begun width block) × (f.refusal ≡ 0)
unfolding begun holding
fed_block width known block small {o} {f} opening feeding =
    let h = (open_answer width).hash in
    let known_hash = open_known width known in
    let good : legal h ≡ true = rw known_hash (first_legal width known) in
    let none : h.bits ≡ 0 = ap (λ (o : Opened). o.hash.bits) known_hash in
    let fed = fed_whole h block (8 * length block) good (whole_bytes block) (omega (arith, none, small)) in
    let all = feeding ∙ ap (λ (o : Opened). feed_answer o.hash block (8 * length block)) opening ∙ fed in (
      ap (λ (f : Fed). f.hash) all ∙ ap (λ (m : List ℕ). advanced h m) (message_bytes block),
      ap (λ (f : Fed). f.refusal) all,
    )
