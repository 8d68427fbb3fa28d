-- What a seal writes over, and that it stays legal.
use Rattle.std.proofs.Common.{◌≡◌, ◌≢◌, ℕ, ℤ, pos, ◌/◌, ◌+◌, ◌==◌, if◌then◌else◌, List, Contains, slice_index, true, false, refl, sym, ap, subst, ◌∙◌}
use Rattle.std.specs.Int.{Width, w8, w16, w32, w64, w128, from_le_bytes}
use Rattle.archive_check.specs.Shape.{Sign, unsigned, signed, Kind, number as number_kind, non_zero, Shape, Pointee}
use Rattle.archive_check.specs.Layout.{kind_size}
use Rattle.archive_check.specs.Leaves.{PlacedLeaf, number_leaf, text_leaf, leaves_of, regions_of}
use Rattle.archive_check.specs.Tour.{Accepted}
use Rattle.archive_check.specs.Within.{PartOfSome}
use Rattle.archive_check.specs.Reads.{SchemaTable, bytes_at, IsLegal, kind_number, kind_value, with_sign}
use Rattle.archive_check.specs.Readable.{target_from, string_text}
use Rattle.archive_num.specs.Digits.{is_zero}

-- The bytes are legal for a leaf, which says z then.
pub record Encodes (kind : Kind) (bytes : List ℕ) (z : ℤ) : Type 0 where
  pub legal : IsLegal kind bytes
  pub says : kind_value kind bytes ≡ z

-- The leaf of a kind at p.
abbrev pub leaf_at : Kind → List ℕ → ℕ → PlacedLeaf
leaf_at kind bytes p = number_leaf p kind (kind_value kind (bytes_at bytes p (kind_size kind)))

-- Each archive of which P at q, of this length, is a part has the leaf x.
abbrev pub StandsIn : List ℕ → ℕ → Pointee → ℕ → PlacedLeaf → Type 0
StandsIn bytes q P n x = (s : SchemaTable) (root : ℕ) (X : Shape) (a : Accepted s bytes root X) → PartOfSome s bytes (regions_of a) q P n → Contains (leaves_of a) x

-- Where the text of the string at p begins.
abbrev pub text_begin : List ℕ → ℕ → ℕ
text_begin bytes p = if (slice_index bytes p / 64) == 2 then target_from bytes p (p + 4) else p

-- Its leaf.
abbrev pub string_leaf : List ℕ → ℕ → PlacedLeaf
string_leaf bytes p = text_leaf (text_begin bytes p) (string_text bytes p)

-- The bytes of a value encode it.
pub value_encodes : {A : Type 0} (value_of : A → ℤ) (number_of : List ℕ → A) (bytes_of : A → List ℕ) (kind : Kind) (x : A)
    → ((bs : List ℕ) → IsLegal kind bs → value_of (number_of bs) ≡ kind_value kind bs) → number_of (bytes_of x) ≡ x → IsLegal kind (bytes_of x)
    → Encodes kind (bytes_of x) (value_of x)
value_encodes value_of number_of bytes_of kind x values back legal = record { legal = legal; says = sym (values (bytes_of x) legal) ∙ ap value_of back }

zero_sign : (sign : Sign) (w : Width) → with_sign sign w 0 ≡ pos 0
zero_sign unsigned w = refl
zero_sign signed w8 = refl
zero_sign signed w16 = refl
zero_sign signed w32 = refl
zero_sign signed w64 = refl
zero_sign signed w128 = refl

not_zero_number : (sign : Sign) (w : Width) (n : ℕ) (z : ℤ) → with_sign sign w n ≡ z → is_zero z ≡ false → n ≢ 0
not_zero_number sign w n z e f g = (let same : z ≡ pos 0 = sym e ∙ ap (with_sign sign w) g ∙ zero_sign sign w in let no : is_zero z ≡ true = rw same refl in cc)

-- So do those of a number that isn't 0, in a leaf that mustn't be.
pub non_zero_encodes : (kind : Kind) (sign : Sign) (w : Width) (bytes : List ℕ) (z : ℤ) → kind ≡ number_kind sign w → Encodes kind bytes z → is_zero z ≡ false → Encodes (non_zero sign w) bytes z
unfolding kind_value kind_number
non_zero_encodes kind sign w bytes z e h zero =
    let says : with_sign sign w (from_le_bytes w bytes) ≡ z = ap (λ k. kind_value k bytes) (sym e) ∙ h.says in
    let plain : IsLegal (number_kind sign w) bytes = rw e at h.legal in
    record { legal = record { size = plain.size; number = not_zero_number sign w (from_le_bytes w bytes) z says zero }; says = says }

-- And it has as many bytes there.
pub non_zero_size : (kind : Kind) (sign : Sign) (w : Width) (n : ℕ) → kind ≡ number_kind sign w → kind_size kind ≡ n → kind_size (non_zero sign w) ≡ n
non_zero_size kind sign w n e h = subst (λ k. kind_size k ≡ n) e h
