use Rattle.std.proofs.Common.{◌≡◌, ℕ, ◌+◌, ◌≤◌, List, ◌++◌, rules, length, take, drop, sym, ap, ◌∙◌, subst, le_refl, drop_at, length-take-le}
use Rattle.std.proofs.lemmas.Slice.{take-put_mid_below}
use Rattle.std.specs.Io.KnownBytes.{Consumes}
use Rattle.std.proofs.KnownBytes.{Consumes-trans}
use borrow.Rule.Slice.PartMut.{put_mid, post_of}
use lib.Seq.{take-add, take-append-le}
use Rattle.seal_input.proofs.read_tape.Goals as goal

-- A read into the room from a place on, and the bytes before that place, make one start of the room.
joined : (a k n : ℕ) (xs ys : List ℕ) → a ≤ length xs → n ≤ length ys → take a xs ++ take n ys ≡ take (a + n) (put_mid a k xs ys)
joined a k n xs ys within fits =
    let after = post_of a k xs in
    let rest : take n (drop a (put_mid a k xs ys)) ≡ take n ys =
    ap (take n) (drop_at (take a xs) (ys ++ after) a (length-take-le a xs within)) ∙ take-append-le n ys after fits
    in
    sym (take-add a n (put_mid a k xs ys) ∙ (λ i. take-put_mid_below a k xs ys a (le_refl a) within i ++ rest i))

pub loop-size-preserved : goal.loop-size-preserved
loop-size-preserved g c =
    let read = c.in_ok-more.ensures in
    let size = c.loop-size.invariant.1 in (
      search rules,
      search rules,
      subst (Consumes _ _) (joined c.loop-size.size _ c.in_ok-more.more c.loop-size.tape c.read_some.new.room size read.within)
          (Consumes-trans _ _ _ _ _ c.loop-size.invariant.2 read.bytes),
    )
