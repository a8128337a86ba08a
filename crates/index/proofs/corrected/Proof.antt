-- What stands before the state that the correction starts at, and a run from that state on.
use mathlib.Core.Bool.{true}
use mathlib.Core.List.{List}
use mathlib.Core.Path.{◌≡◌, refl, sym, ap, ◌∙◌}
use Prim.Native.Nat.{ℕ, ◌+◌, ◌*◌, ◌-◌, ◌≤◌}
use native.Mathlib.Omega.{arith}
use borrow.Author.Rules.{rules}
use borrow.Rule.Slice.PartMut.{put_mid, mid_len}
use lib.ListN.{length, take, length-take}
use Rattle.simd.specs.Basic.{Family, family_of, block_bytes, state_words}
use Rattle.simd.specs.Message.{message}
use Rattle.bits.proofs.Parts.{front_size, put_length}
use Rattle.bits.proofs.Zeros.{take_padded}
use Rattle.form.specs.Head.{head_bytes}
use Rattle.tail.proofs.Absorbing.{refit}
use Rattle.tail.proofs.Sizes.{words_within}
use Rattle.hash.specs.Open.{written}
use Rattle.hash.proofs.Feeding.{length_message}
use Rattle.checkpoints.specs.Index.{kept, start_state, states_from}
use Rattle.checkpoints.specs.Calls.{fits}
use Rattle.checkpoints.proofs.Heads.{fit}
use Rattle.index.proofs.Accepted.{Accepted, corrects}
use Rattle.index.proofs.Numbers.{counted, skipped_full, states_before, states_behind}
use Rattle.index.proofs.Outputs.{parts_written, length_from, start_words, corrected_index_lem, corrected_digest_lem}
use Rattle.index.proofs.corrected.Statement.{statement}
use Rattle.index.proofs.corrected.Tie as tie

-- What holds of a call that is not refused.
good : (c : tie.After-block_bytes) → let a = c.args in Accepted a.width a.message.now a.count (length a.index.now) (length a.out.now) × (fits a.width a.count a.old.now ≡ true)
good c =
    let a = c.args in
    corrects a.width a.message.now a.count (length a.index.now) (length a.out.now) a.old.now a.block (sym c.requires) refl

-- Where the states from that one on lie.
module _ (c : tie.After-block_bytes) where
  abbrev f : Family
  f = family_of c.args.width

  abbrev i : ℕ
  i = c.starts_at-i.result

  abbrev size : ℕ
  size = c.block_bytes.result

  abbrev state : List ℕ
  state = c.start_state-state.result

  before-start : size * i ≤ block_bytes f * kept f c.args.count
  before-start = states_before f c.args.count c.args.block c.block_bytes.ensures c.starts_at-i.ensures

  old-size : length c.args.old.now ≡ head_bytes + block_bytes f * kept f c.args.count
  old-size = (fit (good c).1).size

  words : length (start_state c.args.width c.args.old.now c.args.count c.args.block) ≡ state_words f
  words = start_words c.args.width c.args.old.now c.args.count c.args.block (good c).0.known

  begun : take (state_words f) state ≡ start_state c.args.width c.args.old.now c.args.count c.args.block
  begun = ap (take (state_words f)) c.start_state-state.ensures ∙ take_padded 32 (state_words f) _ words (words_within f)

start-state-requires : tie.Need-start_state-state-requires
start-state-requires c κs =
    let a = c.args in
    (corrects a.width a.message.now a.count (length a.index.now) (length a.out.now) a.old.now a.block (sym c.requires) refl).1

mul-middle : tie.Need-overflow_mul-middle
mul-middle c = omega (arith, before-start c, old-size c)

add-middle : tie.Need-overflow_add-middle
add-middle c = omega (arith, before-start c, old-size c)

part-write-bytes-end : tie.Need-slice_bounds-write_bytes-end
part-write-bytes-end c = omega (arith, before-start c.before, (good c.before).0.index_room)

write-bytes-requires : tie.Need-write_bytes-requires
write-bytes-requires c κs =
    let b = c.before.before in
    omega (
      arith,
      length-take (head_bytes + size b * i b - 0) c.args.index.now,
      before-start b,
      old-size b,
    )

-- What is carried over, and the index with it.
module _ (c : tie.After-write_bytes) where
  abbrev b : tie.After-block_bytes
  b = c.before.before.before

  abbrev middle : ℕ
  middle = head_bytes + size b * i b

  abbrev end : ℕ
  end = c.index_bytes-end.result

  abbrev carried : List ℕ
  carried = c.write_bytes.new.out

  ended : end ≡ head_bytes + block_bytes (f b) * kept (f b) c.args.count
  ended = c.index_bytes-end.ensures

  middle-room : middle ≤ length c.args.index.now
  middle-room = omega (arith, before-start b, (good b).0.index_room)

  carried-right : carried ≡ take middle c.args.old.now
  carried-right = c.write_bytes.ensures ∙ ap (λ (n : ℕ). take n c.args.old.now) (front_size middle c.args.index.now middle-room)

  carried-long : length carried ≡ middle
  carried-long = ap length carried-right ∙ omega (arith, length-take middle c.args.old.now, before-start b, old-size b)

  index-long : length (put_mid 0 (middle - 0) c.args.index.now carried) ≡ length c.args.index.now
  index-long = put_length 0 middle c.args.index.now carried (omega arith) middle-room (omega (arith, carried-long))

  room : end ≤ length (put_mid 0 (middle - 0) c.args.index.now carried)
  room = omega (arith, index-long, (good b).0.index_room, ended)

  order : middle ≤ end
  order = omega (arith, before-start b, ended)

  states-size : end - middle ≡ block_bytes (f b) * (kept (f b) c.args.count - i b)
  states-size =
      let states : end - middle ≡ block_bytes (f b) * kept (f b) c.args.count - size b * i b = omega (arith, ended) in
      states ∙ states_behind (f b) c.args.count c.args.block c.block_bytes.ensures c.starts_at-i.ensures

  states-long : {y : List ℕ}
      → y ≡ states_from (f b) (take (state_words (f b)) (state b)) (message c.args.message.now c.args.count) (i b)
      → length y ≡ end - middle
  states-long wrote =
      let size = length_message c.args.message.now c.args.count (good b).0.whole.within in
      ap length wrote ∙ length_from (f b) _ _ c.args.count (i b) (ap length (begun b) ∙ words b) size ∙ sym states-size

sub-finish : tie.Need-slice_bounds-finish-count
sub-finish c = omega (arith, order c.before.before)

part-finish-start : tie.Need-slice_bounds-finish-start
part-finish-start c = omega (arith, order c.before.before)

part-finish-end : tie.Need-slice_bounds-finish-end
part-finish-end c = omega (arith, room c.before.before)

finish-requires : tie.Need-finish-requires
finish-requires c κs =
    let w = c.before.before.before.before in
    let d = b w in
    let g = (good d).0 in (
      g.known,
      refit (f d) (state d) _ (words d) c.start_state-state.ensures,
      g.whole.within,
      omega (arith, c.starts_at-i.ensures, skipped_full (f d) c.args.count c.args.block),
      mid_len (middle w) (end w) (put_mid 0 (middle w - 0) c.args.index.now (carried w)) (room w) ∙ states-size w,
      g.digest_room,
    )

returns-2 : tie.Need-returns
returns-2 c =
    let w = c.before.before.before.before.before.before.before.before.before in
    let d = b w in
    let a = c.args in
    let m = message a.message.now a.count in
    let whole = length_message a.message.now a.count (good d).0.whole.within in
    let placed = c.starts_at-i.ensures in
    let states = c.finish.new.states in
    let index =
    parts_written (middle w) (end w) a.index.now (carried w) states (carried-long w) (states-long w c.finish.ensures.1.0) (order w)
    (omega (arith, room w, index-long w))
    ∙ ap (λ (l : List ℕ). written 0 l a.index.now)
    (corrected_index_lem a.width a.old.now m a.block whole placed (begun d) c.block_bytes.ensures (carried-right w) c.finish.ensures.1.0) in
    let out =
    c.finish.ensures.1.1
    ∙ ap (λ (l : List ℕ). written 0 l a.out.now) (corrected_digest_lem a.width a.old.now m a.block whole placed (begun d)) in
    (index, (out, counted (f d) a.count a.block placed c.finish.ensures.0))

pub corrected_spec : {M : Type 1} → statement M
corrected_spec =
    tie.close
    (tie.spec (λ c κs. search rules) start-state-requires (λ c κs. search rules) mul-middle add-middle (λ c κs. search rules) (λ c. search rules) (λ c. search rules) part-write-bytes-end write-bytes-requires sub-finish part-finish-start part-finish-end finish-requires (λ c. search rules) (λ c. search rules) returns-2)
