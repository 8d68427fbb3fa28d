-- What the bytes of an offset say, and where they lie.
use Rattle.std.proofs.Common.{◌≡◌, ◌<◌, ◌≤◌, ◌+◌, ◌*◌, Bool, true, false, ◌^◌, ℕ, ℤ, List, length, sym, ap, ◌∙◌, arith}
use Rattle.std.specs.Coded.{le_prop}
use Rattle.std.proofs.Math.Logic.{∥∥₁_elim}
use Rattle.std.specs.Int.{Width, byte_len, from_le_bytes, cast_unsigned, w64}
use mir.Val.{bits}
use Rattle.std.proofs.lemmas.Int.{to_z-of_z}
use lib.Dec.{le→leb, lt→ltb}
use borrow.Author.Gap.{read_sfits}
use Rattle.archive_check.specs.Shape.{Sign, unsigned, signed, Kind, number, Shape, parts, one}
use Rattle.archive_check.specs.Layout.{Layout}
use Rattle.archive_check.specs.LittleEndian.{little_number, AreBytes}
use Rattle.archive_check.specs.Reads.{IsLegal, kind_value, with_sign}
use Rattle.archive_check.specs.Definitions.{Definitions, no_definition, HasLayout}
use Rattle.archive_check.specs.Viewed.{Viewed}
use Rattle.archive_check.proofs.LittleEndian.{from_le_bytes-little, little_number-lt, pow_bits}
use Rattle.archive_check.proofs.Viewing.Viewed.{lies_fits}
use Rattle.archive_num.specs.NumberLaws.{number-leaf, unsigned-reads, signed-reads}
use Rattle.archive_num.specs.OffsetWidths.{IsOffsetWidth}
use Rattle.archive_types.specs.RelativePointers.{rel_parts, rel_layout, length_begin}
use Rattle.archive_types.specs.Members.RelativeLayout.{rel_has_layout}
use Rattle.archive_num.specs.Offsets.{Fits, offset_bytes, as_isize}

-- z fits, and these are its bytes
pub record IsOffset (sign : Sign) (width : Width) (bs : List ℕ) (z : ℤ) : Type 0 where
  pub fits : Fits sign width z
  pub bytes : bs ≡ offset_bytes width z

below : (w : Width) (bs : List ℕ) → length bs ≡ byte_len w → AreBytes bs → little_number bs < 2 ^ bits w
below w bs e h = rw (← pow_bits w, ← e) (little_number-lt bs h)

-- each list of so many bytes is an offset's
is_offset : (sign : Sign) (w : Width) (bs : List ℕ) → length bs ≡ byte_len w → AreBytes bs → IsOffset sign w bs (with_sign sign w (little_number bs))
is_offset unsigned w bs e h =
    let b = below w bs e h in
    record { fits = (record { le = le→leb 0 (little_number bs) (omega arith) }, record { lt = lt→ltb (little_number bs) (2 ^ bits w) b }); bytes = sym (unsigned-reads w bs e h) }
is_offset signed w bs e h = record { fits = read_sfits w (little_number bs); bytes = sym (signed-reads w bs e h) }

-- the bytes of a number of the machine are those of an offset
pub number_is_offset : {X : Type 0} (value_of : X → ℤ) (number_of : List ℕ → X) (x : X) (bs : List ℕ) (sign : Sign) (w : Width) (kind : Kind) → kind ≡ number sign w
    → AreBytes bs → IsLegal kind bs → number_of bs ≡ x → ((xs : List ℕ) → IsLegal kind xs → value_of (number_of xs) ≡ kind_value kind xs) → IsOffset sign w bs (value_of x)
unfolding kind_value
number_is_offset value_of number_of x bs sign w kind e are legal same law =
    let plain : IsLegal (number sign w) bs = rw (← e) legal in
    let value : value_of x ≡ kind_value kind bs = ap value_of (sym same) ∙ law bs legal in
    let little : value_of x ≡ with_sign sign w (little_number bs) = value ∙ ap (λ k. kind_value k bs) e ∙ ap (with_sign sign w) (from_le_bytes-little w bs plain.size) in
    rw little (is_offset sign w bs plain.size are)

-- what a number reads in such bytes
pub number_read : {X : Type 0} (value_of : X → ℤ) (number_of : List ℕ → X) (bs : List ℕ) (sign : Sign) (w : Width) (kind : Kind) → kind ≡ number sign w → length bs ≡ byte_len w
    → ((xs : List ℕ) → IsLegal kind xs → value_of (number_of xs) ≡ kind_value kind xs) → value_of (number_of bs) ≡ with_sign sign w (from_le_bytes w bs)
unfolding kind_value
number_read value_of number_of bs sign w kind e size law =
    let plain : IsLegal kind bs = rw e (number-leaf sign w bs size) in
    law bs plain ∙ ap (λ k. kind_value k bs) e

-- what is viewed lies in the buffer
pub view_fits : (D : Definitions) (bytes : List ℕ) (q n : ℕ) (X : Shape) (L : Layout) → HasLayout D X L → Viewed D bytes q (one X) n → q + L.size ≤ length bytes
view_fits D bytes q n X L h v = ∥∥₁_elim v le_prop (λ (s, k, l). let same = ap (λ l. l.size) (h.solved s k) in omega (arith, same, lies_fits s bytes k.laid_out l))

-- what is an `isize` stays as it is
pub as_isize_again : (z : ℤ) → as_isize (as_isize z) ≡ as_isize z
as_isize_again z = to_z-of_z w64 (as_isize z) (read_sfits w64 (cast_unsigned w64 z))

-- relative pointers that say what they lead to

offset_part : (w : Width) (has : Bool) → byte_len w ≤ (rel_layout w has).size
offset_part w false = omega arith
offset_part w true = omega arith

length_part : (w : Width) → length_begin w + 4 ≤ 2 * length_begin w
length_part w = omega arith

-- the offset lies in the buffer
pub rel_offset_inside : (bytes : List ℕ) (q n : ℕ) (sign : Sign) (w : Width) → IsOffsetWidth w → (has : Bool) → Viewed no_definition bytes q (one (parts (rel_parts sign w has))) n → q + byte_len w ≤ length bytes
rel_offset_inside bytes q n sign w h has v =
    omega (arith, offset_part w has, view_fits no_definition bytes q n (parts (rel_parts sign w has)) (rel_layout w has) (rel_has_layout sign w h has) v)

-- and so does the length
pub rel_length_inside : (bytes : List ℕ) (q n : ℕ) (sign : Sign) (w : Width) → IsOffsetWidth w → (has : Bool) → has ≡ true → Viewed no_definition bytes q (one (parts (rel_parts sign w has))) n → q + length_begin w + 4 ≤ length bytes
rel_length_inside bytes q n sign w h has e v =
    let with : Viewed no_definition bytes q (one (parts (rel_parts sign w true))) n = rw e at v in
    omega (arith, length_part w, view_fits no_definition bytes q n (parts (rel_parts sign w true)) (rel_layout w true) (rel_has_layout sign w h true) with)
