-- The tag of the keyed hash is that of FIPS 198-1. What was fed to the inner hash is (K0 xor ipad) || text and to the outer one K0 xor opad, so that
-- the digests of both, and with them the tag, are those of the definition.
use mathlib.Core.Bool.{true}
use mathlib.Core.List.{List, [], ◌++◌}
use mathlib.Core.Path.{◌≡◌, refl, sym, ap, ◌∙◌}
use Prim.Native.Nat.{ℕ, ◌+◌, ◌*◌, ◌%◌, ◌≤◌}
use native.Mathlib.Omega.{arith}
use borrow.Author.Tests.{le-leb}
use lib.Bits.{bit_xor}
use lib.ListN.{length, get_or, drop, length-append}
use Rattle.simd.specs.Basic.{Family, small, large, family_of, is_width, block_bits, digest_bytes}
use Rattle.simd.specs.Message.{bits_of, message, message_blocks}
use Rattle.simd.specs.Hash.{digest, compressions}
use Rattle.laws.proofs.Table.{length_table}
use Rattle.laws.proofs.Bits.{Bits, bits_bits_of, bits_append, length_bits_of}
use Rattle.hash.specs.Open.{Opened as HashOpened, limit, family, used, pending, holding, advanced, full_blocks, digest_of, written, piece_refusal}
use Rattle.hash.specs.declared.Hash.{Hash}
use Rattle.hash.proofs.Holding.{Sized}
use Rattle.hash.proofs.Feeding.{Whole}
use Rattle.hash.proofs.Digests.{length_digest}
use Rattle.hash_theorems.proofs.Held.{Long, long}
use Rattle.hash_theorems.proofs.Advanced.{joined_length, advanced_sized, advanced_legal, advanced_bits, advanced_append, advanced_none}
use Rattle.hash_theorems.proofs.Advanced.{blocks_append, none_full, message_blocks_lem}
use Rattle.hash_theorems.proofs.Cutting.{Piece, joined, Wholes, bits_joined, Answer, in_turn, Feeding, all_joined}
use Rattle.hash_theorems.proofs.Theorems.{first, first_sized, open_known as hash-opened}
use Rattle.hash_theorems.proofs.Theorems.{after_width as hash-width, after_bits as hash-bits, after_legal, after_digest}
use Rattle.pairs.specs.Lists.{equal}
use Rattle.pairs.proofs.ListLaws.{equal_true, same_equal}
use Rattle.hmac_key.specs.Hmac.{ipad, opad, masked, key_block, tag}
use Rattle.hmac_key.specs.Refusal.{key_refusal}
use Rattle.hmac_key.proofs.KeyBlock.{key_block_length}
use Rattle.hmac_parts.specs.Keyed.{begun, keyed, tag_from}
use Rattle.hmac_parts.proofs.Keyed.{IsKeyed, keyed_facts, keyed_of}
use Rattle.hmac.specs.Keyed.{Opened, Checked, legal, width, opened, opening, open_answer, feed_refusal, fed, feed_answer, tag_of, take_refusal, taken, take_answer, check_answer}
use Rattle.hmac.specs.declared.Hmac.{Hmac}

-- A keyed hash fed a piece, and all pieces of a cutting.
unfoldable pub feed_piece : Hmac → Piece → Answer Hmac
feed_piece k p =
    let a = feed_answer k p.bytes p.count in
    record { left = a.hmac; blocks = a.blocks; refusal = a.refusal }

abbrev pub feed_all : Hmac → List Piece → Answer Hmac
feed_all k ps = in_turn feed_piece k ps

-- The keyed hash after bits were fed to its inner hash.
abbrev pub further : Hmac → List ℕ → Hmac
further k m = record { inner = advanced k.inner m; outer = k.outer }

module _ (k : Hmac) (s : Long k.inner) (m : List ℕ) (bit : Bits m) where
  pub further_legal : legal k ≡ true → legal (further k m) ≡ true
  unfolding legal advanced holding
  further_legal good =
      let i = keyed_facts k.inner k.outer good in
      keyed_of (advanced k.inner m) k.outer
      (record {
        inner_legal = advanced_legal k.inner s m bit i.inner_legal;
        outer_legal = i.outer_legal;
        one_width = i.one_width;
        long = omega (arith, i.long);
        exact = i.exact;
      })

pub fed_once : (k : Hmac) → legal k ≡ true → (piece : List ℕ) (count : ℕ) → Whole piece count → k.inner.bits + count ≤ limit
    → feed_answer k piece count
    ≡ record { hmac = further k (message piece count); blocks = full_blocks k.inner (length (message piece count)); refusal = 0 }
unfolding feed_answer feed_refusal fed piece_refusal
fed_once k good piece count whole short =
    rw (good, le-leb count (8 * length piece) whole, le-leb (k.inner.bits + count) limit short)

-- Feeding pieces one after the other is feeding their bits joined.
record Fit (k : Hmac) (n : ℕ) : Type 0 where
  sized : Sized k.inner
  good : legal k ≡ true
  short : k.inner.bits + n ≤ limit

feed_once : (k : Hmac) (p : Piece) → Whole p.bytes p.count → Fit k p.count
    → feed_piece k p
    ≡ record { left = further k (message p.bytes p.count); blocks = full_blocks k.inner (length (message p.bytes p.count)); refusal = 0 }
unfolding feed_piece
feed_once k p whole fit = rw (fed_once k fit.good p.bytes p.count whole fit.short)

pub further_none : (k : Hmac) → Sized k.inner → legal k ≡ true → (further k [] ≡ k) × (full_blocks k.inner 0 ≡ 0)
unfolding full_blocks legal
further_none k s good =
    let same = advanced_none k.inner s (keyed_facts k.inner k.outer good).inner_legal in
    ((λ i. record { inner = same i; outer = k.outer }), none_full (family k.inner) k.inner.bits)

pub further_joins : (k : Hmac) → Sized k.inner → (m n : List ℕ) → Bits m
    → (further (further k m) n ≡ further k (m ++ n))
    × (full_blocks k.inner (length m) + full_blocks (further k m).inner (length n) ≡ full_blocks k.inner (length (m ++ n)))
further_joins k s m n bit =
    let hash = advanced_append k.inner (long s) m n bit in
    ((λ i. record { inner = hash i; outer = k.outer }), sym (blocks_append k.inner m n))

keyed_feeding : Feeding (λ (k : Hmac). k) feed_piece further (λ k n. full_blocks k.inner n) Fit
keyed_feeding =
    record {
      once = feed_once;
      fewer = λ k m n fit. record { sized = fit.sized; good = fit.good; short = omega (arith, fit.short) };
      ready = λ k m n bit fit.
          record {
            sized = advanced_sized k.inner (long fit.sized) m bit;
            good = further_legal k (long fit.sized) m bit fit.good;
            short = omega (arith, fit.short, advanced_bits k.inner m);
          };
      none = λ k fit. further_none k fit.sized fit.good;
      joins = λ k m n bit fit. further_joins k fit.sized m n bit;
    }

pub feed_all_lem : (k : Hmac) → Sized k.inner → legal k ≡ true → (ps : List Piece) → Wholes ps → k.inner.bits + length (joined ps) ≤ limit
    → feed_all k ps ≡ record { left = further k (joined ps); blocks = full_blocks k.inner (length (joined ps)); refusal = 0 }
feed_all_lem k s good ps whole short = all_joined keyed_feeding k ps whole (record { sized = s; good = good; short = short })

whole_blocks : (f : Family) → block_bits f % block_bits f ≡ 0
whole_blocks small = refl
whole_blocks large = refl

-- A known width and a key within the limit.
module _ (w : ℕ) (known : is_width w ≡ true) (key : List ℕ) (short : 8 * length key ≤ limit) where
  abbrev f : Family
  f = family_of w

  abbrev start : Hmac
  start = opening w key

  pub open_known : open_answer w key ≡ record { hmac = opening w key; refusal = 0 }
  unfolding open_answer key_refusal opened
  open_known = rw (known, le-leb (8 * length key) limit short)

  -- The two blocks, and the hashes that begin with them.
  pub pad_bits : (pad : ℕ) → length (bits_of (masked pad (key_block w key))) ≡ block_bits f
  unfolding masked
  pad_bits pad =
      omega (
        arith,
        length_bits_of (masked pad (key_block w key)),
        length_table (length (key_block w key)) (λ j. bit_xor (get_or (key_block w key) j 0) pad),
        key_block_length w key,
      )

  begun_first : (block : List ℕ) → begun w block ≡ advanced (first w) (bits_of block)
  unfolding begun
  begun_first block = ap (λ (o : HashOpened). advanced o.hash (bits_of block)) (hash-opened w known)

  pub start_sized : Sized (opening w key).inner
  unfolding opening
  start_sized =
      rw (begun_first (masked ipad (key_block w key)))
      (advanced_sized (first w) (long (first_sized w known)) _ (bits_bits_of (masked ipad (key_block w key))))

  abbrev outer_text : List ℕ
  outer_text = bits_of (masked opad (key_block w key))

  block_keyed : (text : List ℕ) → Bits text → block_bits f ≤ length text → IsKeyed (advanced (first w) text) (advanced (first w) outer_text)
  unfolding advanced holding
  block_keyed text bit enough =
      record {
        inner_legal = after_legal w known text bit;
        outer_legal = after_legal w known outer_text (bits_bits_of (masked opad (key_block w key)));
        one_width = refl;
        long = omega (arith, enough);
        exact = omega (arith, pad_bits opad);
      }

  pub start_bits : (opening w key).inner.bits ≡ block_bits (family_of w)
  unfolding opening
  start_bits =
      ap (λ (h : Hash). h.bits) (begun_first (masked ipad (key_block w key)))
      ∙ hash-bits w known _ (bits_bits_of (masked ipad (key_block w key))) ∙ pad_bits ipad

  pub start_family : family (opening w key).inner ≡ family_of w
  unfolding opening
  start_family =
      ap (λ (h : Hash). family_of h.width) (begun_first (masked ipad (key_block w key)))
      ∙ ap family_of (hash-width w known _ (bits_bits_of (masked ipad (key_block w key))))

  pub start_legal : legal (opening w key) ≡ true
  unfolding legal opening
  start_legal =
      let text = bits_of (masked ipad (key_block w key)) in
      rw (begun_first (masked ipad (key_block w key)), begun_first (masked opad (key_block w key)))
      (keyed_of (advanced (first w) text) (advanced (first w) outer_text)
      (block_keyed text (bits_bits_of (masked ipad (key_block w key))) (omega (arith, pad_bits ipad))))

  -- After a message. What each hash was fed since it was opened:
  module _ (m : List ℕ) (bit : Bits m) where
    abbrev inner_text : List ℕ
    inner_text = bits_of (masked ipad (key_block w key)) ++ m

    inner_bit : Bits inner_text
    inner_bit = bits_append (bits_of (masked ipad (key_block w key))) m (bits_bits_of (masked ipad (key_block w key))) bit

    inner_fed : (further start m).inner ≡ advanced (first w) inner_text
    unfolding opening
    inner_fed =
        ap (λ (h : Hash). advanced h m) (begun_first (masked ipad (key_block w key)))
        ∙ advanced_append (first w) (long (first_sized w known)) _ m (bits_bits_of (masked ipad (key_block w key)))

    outer_fed : start.outer ≡ advanced (first w) outer_text
    unfolding opening
    outer_fed = begun_first (masked opad (key_block w key))

    pub after_keyed : legal (further (opening w key) m) ≡ true
    unfolding legal
    after_keyed = rw (inner_fed, outer_fed) (keyed_of (advanced (first w) inner_text) (advanced (first w) outer_text)
        (block_keyed inner_text inner_bit (omega (arith, length-append (bits_of (masked ipad (key_block w key))) m, pad_bits ipad))))

    pub after_tag : tag_of (further (opening w key) m) ≡ tag w key m
    unfolding tag_from tag
    after_tag =
        let inner = ap digest_of inner_fed ∙ after_digest w known inner_text inner_bit in
        let d = digest w inner_text in
        (λ i. digest_of (advanced (outer_fed i) (bits_of (inner i))))
        ∙ ap digest_of (advanced_append (first w) (long (first_sized w known)) outer_text (bits_of d) (bits_bits_of (masked opad (key_block w key))))
        ∙ after_digest w known (outer_text ++ bits_of d) (bits_append outer_text (bits_of d) (bits_bits_of (masked opad (key_block w key))) (bits_bits_of d))

    pub after_width : width (further (opening w key) m) ≡ w
    after_width = ap (λ (h : Hash). h.width) inner_fed ∙ hash-width w known inner_text inner_bit

    pub after_bits : (further (opening w key) m).inner.bits ≡ block_bits (family_of w) + length m
    after_bits =
        ap (λ (h : Hash). h.bits) inner_fed ∙ hash-bits w known inner_text inner_bit
        ∙ omega (arith, length-append (bits_of (masked ipad (key_block w key))) m, pad_bits ipad)

    -- The blocks that the message makes full and those of the take: the message's compressions, as the inner hash held exactly a block, and the
    -- outer hash's two.
    pub after_blocks : let h = (further (opening w key) m).inner in
        full_blocks (opening w key).inner (length m) + (compressions (family h) (used h) + 2)
        ≡ compressions (family_of w) (length m) + 2
    unfolding advanced holding compressions
    after_blocks =
        let h = start.inner in
        let count = message_blocks_lem h (long start_sized) m in
        let size = joined_length h (long start_sized) m in
        let none : used h ≡ 0 = (λ i. start_bits i % block_bits (start_family i)) ∙ whole_blocks f in
        let all : length (pending h ++ m) ≡ length m = omega (arith, size, none) in
        let same = sym (λ i. message_blocks (start_family i) (all i)) ∙ count in
        omega (arith, same)

-- Opened with a key, fed the pieces of any cutting of any message that with a key block is within the limit, and taken: nothing is refused, the bytes
-- are the tag of FIPS 198-1, the blocks are the message's compressions and two, and a check says yes exactly of the whole tag.
pub record Sealed (w : ℕ) (key m : List ℕ) (a : Answer Hmac) (out : List ℕ) : Type 0 where
  pub opened : (open_answer w key).refusal ≡ 0
  pub accepted : a.refusal ≡ 0
  pub answered : (take_answer a.left out).refusal ≡ 0
  pub bytes : written (take_refusal a.left out) (tag_of a.left) out ≡ tag w key m ++ drop (digest_bytes w) out
  pub blocks : a.blocks + (take_answer a.left out).blocks ≡ compressions (family_of w) (length m) + 2
  pub checked : (given : List ℕ) → (check_answer a.left given).refusal ≡ 0
  pub right : (given : List ℕ) → given ≡ tag w key m → (check_answer a.left given).right ≡ true
  pub only : (given : List ℕ) → (check_answer a.left given).right ≡ true → given ≡ tag w key m

module _ (w : ℕ) (known : is_width w ≡ true) (key : List ℕ) (short : 8 * length key ≤ limit) where
  pub tag_length : (m : List ℕ) → length (tag w key m) ≡ digest_bytes w
  unfolding tag
  tag_length m = length_digest w known _

  module _ (m : List ℕ) (bit : Bits m) where
    abbrev k : Hmac
    k = further (opening w key) m

    good : legal k ≡ true
    good = after_keyed w known key short m bit

    pub take_accepted : (out : List ℕ) → digest_bytes w ≤ length out → take_refusal (further (opening w key) m) out ≡ 0
    unfolding take_refusal
    take_accepted out room =
        rw (good, le-leb (digest_bytes (width k)) (length out) (rw (after_width w known key short m bit) room))

    check_answer_lem : (given : List ℕ) → check_answer k given ≡ record { hmac = k; right = equal given (tag w key m); refusal = 0 }
    unfolding check_answer
    check_answer_lem given = rw (good, after_tag w known key short m bit)

    after_sealed : (out : List ℕ) → digest_bytes w ≤ length out
        → Sealed w key m (record { left = k; blocks = full_blocks (opening w key).inner (length m); refusal = 0 }) out
    unfolding take_answer taken written
    after_sealed out room =
        let none = take_accepted out room in
        let text = after_tag w known key short m bit in
        record {
          opened = ap (λ (o : Opened). o.refusal) (open_known w known key short);
          accepted = refl;
          answered = rw none;
          bytes = rw none (ap (λ (l : List ℕ). l ++ drop (length l) out) text ∙ ap (λ (n : ℕ). tag w key m ++ drop n out) (tag_length m));
          blocks = rw none (after_blocks w known key short m bit);
          checked = λ given. ap (λ (c : Checked). c.refusal) (check_answer_lem given);
          right = λ given e. ap (λ (c : Checked). c.right) (check_answer_lem given) ∙ same_equal given (tag w key m) e;
          only = λ given e. equal_true given (tag w key m) (sym (ap (λ (c : Checked). c.right) (check_answer_lem given)) ∙ e);
        }

  pub tagging : (ps : List Piece) → Wholes ps → block_bits (family_of w) + length (joined ps) ≤ limit → (out : List ℕ) → digest_bytes w ≤ length out
      → Sealed w key (joined ps) (feed_all (open_answer w key).hmac ps) out
  tagging ps whole within out room =
      let total : (opening w key).inner.bits + length (joined ps) ≤ limit = omega (arith, start_bits w known key short) in
      let all = feed_all_lem (opening w key) (start_sized w known key short) (start_legal w known key short) ps whole total in
      rw (open_known w known key short, all) (after_sealed (joined ps) (bits_joined ps) out room)
