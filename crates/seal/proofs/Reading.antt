-- What was read of an input whose bytes are known is all of them, or as many as the room has, and either way it has the listing of all.
use Rattle.std.proofs.Common.{◌≡◌, ℕ, ◌<◌, ◌≤◌, List, ◌++◌, None, Some, IfSome, length, take, sym, ap, ◌∙◌, subst, arith, append-nil, length-take-le}
use Rattle.std.specs.declared.option.Option.{Option}
use Rattle.std.specs.Io.KnownBytes.{Consumes, IsAtEnd}
use native.Mathlib.Decide.{dec_le}
use lib.ListN.{length-append}
use Rattle.listing.specs.Listing.{lines, listing}
use Rattle.listing.proofs.Lines.{sealed_long}

-- Of a tape that is too long no byte counts.
long_listing : (tape other : List ℕ) → 65536 < length tape → 65536 < length other → listing tape ≡ listing other
unfolding listing
long_listing tape other long too = ap (lines 0) (sealed_long tape 0 long ∙ sym (sealed_long other 0 too))

module _ (size : ℕ) (room : List ℕ) (filled : length room ≡ 65537) (within : size ≤ length room) where
  by_bytes : (bytes rest : List ℕ) → bytes ≡ take size room ++ rest → (size < length room → IsAtEnd (Some rest)) → listing (take size room) ≡ listing bytes
  by_bytes bytes rest split end =
      elim (dec_le 65537 size) [
        | yes full ↦
            let taken : length (take size room) ≡ size = length-take-le size room within in
            long_listing (take size room) bytes (omega arith) (omega (arith, ap length split, length-append (take size room) rest))
        | no short ↦ ap listing (sym (split ∙ ap (λ l. take size room ++ l) (end (omega arith)) ∙ append-nil (take size room)))
      ]

  pub listed : (P : List ℕ → Type 0) (old new : Option (List ℕ)) → Consumes old new (take size room) → (size < length room → IsAtEnd new)
      → P (listing (take size room)) → IfSome old (λ bytes. P (listing bytes))
  listed P None new split end holds = tt
  listed P (Some bytes) None split end holds = absurd split
  listed P (Some bytes) (Some rest) split end holds = subst P (by_bytes bytes rest split end) holds
