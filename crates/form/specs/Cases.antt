-- The sizes of stored forms, and of old ones, as numbers.
use Rattle.std.specs.Prelude.{◌≡◌, refl}
use Rattle.simd.specs.Basic.{small, large}
use Rattle.form.specs.Size.{form_bytes, old_form_bytes}

pub cases : (form_bytes small ≡ 138) × (form_bytes large ≡ 266) × (old_form_bytes small ≡ 134) × (old_form_bytes large ≡ 262)
cases = (refl, refl, refl, refl)
