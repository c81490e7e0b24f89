-- The bytes of a key's text, stored in the key or allocated.
use Rattle.std.specs.Prelude.{ℕ, List, take}
use Rattle.epx_types.specs.declared.key_text.KeyText.{KeyText}
use Rattle.epx_types.specs.declared.key_text.KeyText.TheVariants.{Short, Long}

-- the bytes of the text of a key, wherever it lies in memory; the zeros after a short one are left
-- out
abbrev pub text_bytes : KeyText → List ℕ
text_bytes (Short text) = take text.len text.bytes
text_bytes (Long text) = text.text.value.bytes
