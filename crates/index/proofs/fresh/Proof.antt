-- The head, and a run of the whole message from the width's starting state.
use mathlib.Core.List.{List}
use mathlib.Core.Path.{◌≡◌, refl, sym, ap, ◌∙◌}
use Prim.Native.Nat.{ℕ, ◌*◌, ◌-◌, ◌≤◌}
use native.Mathlib.Nat.{sub-zero}
use native.Mathlib.Omega.{arith}
use borrow.Author.Rules.{rules}
use borrow.Rule.Slice.PartMut.{put_mid, mid_len}
use lib.ListN.{length, take}
use Rattle.simd.specs.Basic.{family_of, block_bytes, state_words}
use Rattle.simd.specs.Constants.{start as starting}
use Rattle.simd.specs.Message.{message}
use Rattle.simd.specs.Hash.{compressions}
use Rattle.bits.proofs.Parts.{put_length}
use Rattle.bits.proofs.Zeros.{take_padded}
use Rattle.form.specs.Head.{head_bytes}
use Rattle.form.proofs.Forming.{length_head}
use Rattle.tail.proofs.Absorbing.{refit}
use Rattle.tail.proofs.Sizes.{words_within}
use Rattle.hash.specs.Open.{written}
use Rattle.hash.proofs.Feeding.{length_message, start_length}
use Rattle.checkpoints.specs.Index.{kept, states_from}
use Rattle.index.proofs.Accepted.{Accepted, accepted}
use Rattle.index.proofs.Outputs.{parts_written, length_from, run_index, run_digest}
use Rattle.index.proofs.fresh.Statement.{statement}
use Rattle.index.proofs.fresh.Tie as tie

-- What holds of a call that is not refused.
good : (c : tie.After-write_head) → let a = c.args in Accepted a.width a.message.now a.count (length a.index.now) (length a.out.now)
good c =
    let a = c.args in
    accepted a.width a.message.now a.count (length a.index.now) (length a.out.now) (sym c.requires) refl

part-write-head-end : tie.Need-slice_bounds-write_head-end
part-write-head-end c =
    let a = c.args in
    omega (arith, (accepted a.width a.message.now a.count (length a.index.now) (length a.out.now) (sym c.requires) refl).index_room)

-- The head, and the index with it.
module _ (c : tie.After-write_head) where
  abbrev headed : List ℕ
  headed = c.write_head.new.out

  abbrev end : ℕ
  end = c.index_bytes-end.result

  head-long : length headed ≡ head_bytes
  head-long = ap length c.write_head.ensures ∙ length_head c.args.width c.args.count

  index-long : length (put_mid 0 head_bytes c.args.index.now headed) ≡ length c.args.index.now
  index-long = put_length 0 head_bytes c.args.index.now headed (omega arith) (omega (arith, (good c).index_room)) head-long

  room : end ≤ length (put_mid 0 head_bytes c.args.index.now headed)
  room = omega (arith, index-long, (good c).index_room, c.index_bytes-end.ensures)

  begun : take (state_words (family_of c.args.width)) c.start_state-state.result ≡ starting c.args.width
  begun =
      let f = family_of c.args.width in
      ap (take (state_words f)) c.start_state-state.ensures
      ∙ take_padded 32 (state_words f) (starting c.args.width) (start_length c.args.width (good c).known) (words_within f)

  states-size : end - head_bytes ≡ block_bytes (family_of c.args.width) * (kept (family_of c.args.width) c.args.count - 0)
  states-size =
      let f = family_of c.args.width in
      let states : end - head_bytes ≡ block_bytes f * kept f c.args.count = omega (arith, c.index_bytes-end.ensures) in
      states ∙ ap (λ (k : ℕ). block_bytes f * k) (sym (sub-zero (kept f c.args.count)))

  states-long : {y : List ℕ}
      → y ≡ states_from (family_of c.args.width) (take (state_words (family_of c.args.width)) c.start_state-state.result)
      (message c.args.message.now c.args.count) 0
      → length y ≡ end - head_bytes
  states-long wrote =
      let f = family_of c.args.width in
      let m = message c.args.message.now c.args.count in
      let words = ap length begun ∙ start_length c.args.width (good c).known in
      let size = length_message c.args.message.now c.args.count (good c).whole.within in
      ap length wrote ∙ length_from f _ m c.args.count 0 words size ∙ sym states-size

part-finish-end : tie.Need-slice_bounds-finish-end
part-finish-end c = omega (arith, room c.before.before)

finish-requires : tie.Need-finish-requires
finish-requires c κs =
    let h = c.before.before.before.before in
    let w = c.args.width in (
      (good h).known,
      refit (family_of w) c.start_state-state.result (starting w) (start_length w (good h).known)
          c.start_state-state.ensures,
      (good h).whole.within,
      omega arith,
      mid_len head_bytes (end h) (put_mid 0 head_bytes c.args.index.now (headed h)) (room h) ∙ states-size h,
      (good h).digest_room,
    )

returns-2 : tie.Need-returns
returns-2 c =
    let h = c.before.before.before.before.before.before.before.before.before in
    let g = good h in
    let b = c.args in
    let m = message b.message.now b.count in
    let whole = length_message b.message.now b.count g.whole.within in
    let states = c.finish.new.states in
    let index =
    parts_written head_bytes (end h) b.index.now (headed h) states (head-long h) (states-long h c.finish.ensures.1.0)
    (omega (arith, c.index_bytes-end.ensures)) (omega (arith, room h, index-long h))
    ∙ ap (λ (l : List ℕ). written 0 l b.index.now) (run_index b.width m (begun h) whole c.write_head.ensures c.finish.ensures.1.0) in
    let out = c.finish.ensures.1.1 ∙ ap (λ (l : List ℕ). written 0 l b.out.now) (run_digest b.width m (begun h)) in
    (index, (out, c.finish.ensures.0 ∙ sub-zero (compressions (family_of b.width) b.count)))

pub fresh_spec : {M : Type 1} → statement M
fresh_spec =
    tie.close
    (tie.spec (λ c κs. search rules) (λ c κs. search rules) (λ c. search rules) (λ c. search rules) part-write-head-end (λ c κs. search rules) (λ c. search rules) (λ c. search rules) part-finish-end finish-requires (λ c. search rules) (λ c. search rules) returns-2)
