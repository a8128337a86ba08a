-- Each word is written straight after those before it.
use mathlib.Core.List.{List}
use mathlib.Core.Path.{ap, ◌∙◌}
use Prim.Native.Nat.{ℕ, ◌+◌}
use native.Mathlib.Omega.{arith}
use lib.ListN.{length, set}
use Rattle.text.specs.Text.{over, decimal as decimalOf, hex as hexOf}
use Rattle.text.proofs.Over.{Wrote, wrote_more, over_byte}
use Rattle.check_digits.specs.Quote.{quote}
use Rattle.check_digits.proofs.Theorems.{quote_18}
use Rattle.lines.specs.Lines.{digest_word, digest_line}
use Rattle.lines.proofs.Words.{spaced, words, short_width, digest_line_lem, digest_line_length}
use Rattle.lines.proofs.digest_line.Goals as goal

pub write-next-requires : goal.write-next-requires
write-next-requires c = (omega (arith, short_width c.from.result (omega arith)), c.requires.1)

pub bounds-text-next : goal.bounds-text-next
bounds-text-next c = omega (arith, short_width c.from.result (omega arith))

pub returns : goal.returns
returns c =
    let a = c.args in
    let t = a.text.now in
    let w = c.from.result in
    let short = short_width w (omega arith) in
    let n = c.write-next.result in
    let same = ap (λ (v : ℕ). digest_line a.number v a.digest.now) c.from.ensures in
    let one : Wrote t (spaced digest_word) c.put-next.new.text c.put-next.result = record { buffer = c.put-next.ensures.0; place = c.put-next.ensures.1 } in
    let two = wrote_more one (spaced (decimalOf a.number)) c.decimal-next.ensures.0 c.decimal-next.ensures.1 (omega arith) in
    let three = wrote_more two (spaced (decimalOf w)) c.decimal-next-2.ensures.0 c.decimal-next-2.ensures.1 (omega arith) in
    let four = wrote_more three (spaced (hexOf a.digest.now)) c.hex-next.ensures.0 c.hex-next.ensures.1 (omega arith) in
    let five =
    wrote_more {n = n} four (quote a.digest.now) c.write-next.ensures.0
    (omega (arith, quote_18 a.digest.now c.requires.1)) (omega arith) in (
      ap (λ (x : List ℕ). set x n 10) five.buffer
          ∙ over_byte t 0 (words a.number w a.digest.now) 10 n (omega (arith, five.place)) (omega arith)
          ∙ ap (over t 0) (digest_line_lem a.number w a.digest.now ∙ same),
      ap (λ k. k + 1) five.place ∙ digest_line_length a.number w a.digest.now ∙ ap length same,
    )
