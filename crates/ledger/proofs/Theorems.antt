-- What holds of all pages: where their lines end, and that no two lists of entries print one page.
use mathlib.Core.List.{List, [], ◌∷◌, ◌++◌, append_assoc}
use mathlib.Core.Path.{◌≡◌, refl, sym, ap, ◌∙◌}
use Prim.Native.Nat.{ℕ, ◌+◌, ◌-◌, ◌<◌, ◌≤◌}
use native.Mathlib.Omega.{arith}
use borrow.Author.Tests.{le-leb}
use lib.ListN.{length, get_or, take, drop, length-append, length-drop}
use lib.Seq.{drop-append_seam, take_at, drop_at, drop-drop}
use Rattle.simd.specs.Basic.{digest_bytes}
use Rattle.text.specs.Text.{hex}
use Rattle.hash.specs.Open.{first, written}
use Rattle.hash.proofs.Refusing.{written_accepted}
use Rattle.text.proofs.Words.{length_hex}
use Rattle.ledger.specs.Page.{Entry, entry_lines, entry_bytes, page, entry_refusal, print_refusal}
use Rattle.ledger.proofs.Columns.{Facts, facts, length_entry, one_at_least}
use Rattle.ledger.proofs.Reading.{hex_only}
use Rattle.ledger.proofs.LineEnds.{Lines, lines_none, lines_append, entry_lines_lem}
use Rattle.ledger.proofs.Distinct.{number_in, width_in, digits_in, number_read, width_read, digits_read}

-- An entry that is not refused and whose digest is a string of bytes, and a list of such entries.
pub record Accepted (e : Entry) : Type 0 where
  pub unrefused : entry_refusal e.number e.width e.digest ≡ 0
  pub bytes : (i : ℕ) → get_or e.digest i 0 < 256

unfoldable pub AllAccepted : List Entry → Type 0
AllAccepted [] = Unit
AllAccepted (e ∷ entries) = Accepted e × AllAccepted entries

-- An entry's lines have exactly its bytes.
pub exact_bytes : (e : Entry) → Accepted e → length (entry_lines e.number e.width e.digest) ≡ entry_bytes e.width
exact_bytes e g = length_entry e.number e.width e.digest (facts e.number e.width e.digest g.unrefused)

-- A page is whole lines: its length is a multiple of 76, and its byte i is 10 exactly where i modulo 76 is 75.
pub page_lines : (entries : List Entry) → AllAccepted entries → Lines (page entries)
unfolding page AllAccepted
page_lines [] _ = lines_none
page_lines (e ∷ entries) g =
    lines_append (entry_lines_lem e.number e.width e.digest (facts e.number e.width e.digest g.0.unrefused)) (page_lines entries g.1)

-- The entry that stands first on a page, and the page of the others, are told by its bytes.
module _ (e f : Entry) (rest-e rest-f : List ℕ) (good_e : Accepted e) (good_f : Accepted f)
    (same : entry_lines e.number e.width e.digest ++ rest-e ≡ entry_lines f.number f.width f.digest ++ rest-f) where
  facts_e : Facts e.number e.width e.digest
  facts_e = facts e.number e.width e.digest good_e.unrefused

  facts_f : Facts f.number f.width f.digest
  facts_f = facts f.number f.width f.digest good_f.unrefused

  one_number : e.number ≡ f.number
  one_number =
      sym (number_read e.number e.width e.digest facts_e rest-e)
      ∙ ap number_in same
      ∙ number_read f.number f.width f.digest facts_f rest-f

  one_width : e.width ≡ f.width
  one_width =
      sym (width_read e.number e.width e.digest facts_e rest-e)
      ∙ ap width_in same
      ∙ width_read f.number f.width f.digest facts_f rest-f

  one_count : length (hex e.digest) ≡ length (hex f.digest)
  one_count =
      let size : length e.digest ≡ length f.digest = facts_e.size ∙ ap digest_bytes one_width ∙ sym facts_f.size in
      omega (arith, length_hex e.digest, length_hex f.digest)

  one_digest : e.digest ≡ f.digest
  one_digest =
      hex_only e.digest f.digest good_e.bytes good_f.bytes
      (sym (digits_read e.number e.width e.digest facts_e rest-e)
      ∙ (λ i. digits_in (one_count i) (same i))
      ∙ digits_read f.number f.width f.digest facts_f rest-f)

  pub first_told : e ≡ f
  first_told = λ i. record { number = one_number i; width = one_width i; digest = one_digest i }

  pub rest_told : rest-e ≡ rest-f
  rest_told =
      sym (drop-append_seam (entry_lines e.number e.width e.digest) rest-e)
      ∙ (λ i. drop (length (entry_lines (first_told i).number (first_told i).width (first_told i).digest)) (same i))
      ∙ drop-append_seam (entry_lines f.number f.width f.digest) rest-f

-- A page with an entry has bytes.
some_bytes : (e : Entry) (rest : List ℕ) → Accepted e → ([] ≡ entry_lines e.number e.width e.digest ++ rest) → ⊥
some_bytes e rest g none =
    omega (
      arith,
      ap length none,
      length-append (entry_lines e.number e.width e.digest) rest,
      exact_bytes e g,
      one_at_least e.width,
    )

-- Entries printed behind a page go on with it.
pub page_append : (a b : List Entry) → page (a ++ b) ≡ page a ++ page b
unfolding page
page_append [] b = refl
page_append (e ∷ a) b =
    let this = entry_lines e.number e.width e.digest in
    ap (λ (l : List ℕ). this ++ l) (page_append a b) ∙ sym (append_assoc this (page a) (page b))

-- The call made for one entry after the other, each time for the bytes behind the last entry: the buffer afterwards, and the sum of the refusals.
unfoldable pub printed : List Entry → List ℕ → List ℕ
printed [] out = out
printed (e ∷ entries) out =
    let left = written (print_refusal e.number e.width e.digest (length out)) (entry_lines e.number e.width e.digest) out in
    take (entry_bytes e.width) left ++ printed entries (drop (entry_bytes e.width) left)

unfoldable pub refusals : List Entry → ℕ → ℕ
refusals [] room = 0
refusals (e ∷ entries) room = print_refusal e.number e.width e.digest room + refusals entries (room - entry_bytes e.width)

print_accepted : (e : Entry) → Accepted e → (room : ℕ) → entry_bytes e.width ≤ room → print_refusal e.number e.width e.digest room ≡ 0
unfolding print_refusal first
print_accepted e g room enough = rw (g.unrefused, le-leb (entry_bytes e.width) room enough)

-- With room for the page no call is refused, and the page stands at the front of the buffer, whose other bytes are as they were.
pub none_refused : (entries : List Entry) → AllAccepted entries → (room : ℕ) → length (page entries) ≤ room → refusals entries room ≡ 0
unfolding refusals page AllAccepted
none_refused [] _ room enough = refl
none_refused (e ∷ entries) g room enough =
    let this = entry_lines e.number e.width e.digest in
    let size = exact_bytes e g.0 in
    let both = length-append this (page entries) in
    rw (
      print_accepted e g.0 room (omega (arith, enough, both, size)),
      none_refused entries g.1 (room - entry_bytes e.width) (omega (arith, enough, both, size)),
    )

pub printed_page : (entries : List Entry) → AllAccepted entries → (out : List ℕ) → length (page entries) ≤ length out
    → printed entries out ≡ page entries ++ drop (length (page entries)) out
unfolding printed page AllAccepted
printed_page [] _ out enough = refl
printed_page (e ∷ entries) g out enough =
    let this = entry_lines e.number e.width e.digest in
    let n = entry_bytes e.width in
    let size = exact_bytes e g.0 in
    let both = length-append this (page entries) in
    let rest = drop (length this) out in
    let left : written (print_refusal e.number e.width e.digest (length out)) this out ≡ this ++ rest =
    written_accepted _ this out (print_accepted e g.0 (length out) (omega (arith, enough, both, size))) in
    let more = printed_page entries g.1 rest (omega (arith, enough, both, length-drop (length this) out)) in
    (λ i. take n (left i) ++ printed entries (drop n (left i)))
    ∙ (λ i. take_at this rest n size i ++ printed entries (drop_at this rest n size i))
    ∙ ap (λ (l : List ℕ). this ++ l) more
    ∙ sym (append_assoc this (page entries) (drop (length (page entries)) rest))
    ∙ ap (λ (l : List ℕ). this ++ page entries ++ l) (drop-drop (length (page entries)) (length this) out)
    ∙ ap (λ (k : ℕ). this ++ page entries ++ drop k out) (sym both)

-- Two lists of entries that print one page are one list, order and repetition included.
pub distinct_pages : (a b : List Entry) → AllAccepted a → AllAccepted b → page a ≡ page b → a ≡ b
unfolding page AllAccepted
distinct_pages [] [] _ _ same = refl
distinct_pages [] (f ∷ b) _ g same = absurd (some_bytes f (page b) g.0 same)
distinct_pages (e ∷ a) [] g _ same = absurd (some_bytes e (page a) g.0 (sym same))
distinct_pages (e ∷ a) (f ∷ b) g h same =
    let first = first_told e f (page a) (page b) g.0 h.0 same in
    let rest = distinct_pages a b g.1 h.1 (rest_told e f (page a) (page b) g.0 h.0 same) in
    λ i. first i ∷ rest i
