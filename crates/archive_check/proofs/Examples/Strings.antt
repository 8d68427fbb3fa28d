-- Strings: out of line, in place, and none.
use Rattle.std.proofs.Common.{◌≡◌, ℕ, List, [], ◌∷◌, pos, refl, arith, lit≤, IsUtf8, codes, false, true, length}
use Rattle.std.specs.FinMap.{empty}
use Rattle.std.specs.Str.{is_utf8, chars}
use Rattle.std.proofs.lemmas.Str.{is_utf8-from_IsUtf8}
use Rattle.archive_check.specs.Shape.{str}
use Rattle.archive_check.specs.Value.{text_value}
use Rattle.archive_check.specs.Reads.{bytes_at, u32_at, i32_at, decoded_length, reads_out_of_line, reads_inline, IsOutOfLine, before_end}
use Rattle.archive_check.specs.Keys.{in_any_order}
use Rattle.archive_check.specs.Tour.{contents_text, tour_end, tour_unique}
use Rattle.archive_check.specs.Denotes.{fills_text, fills_unique}
use Rattle.archive_check.specs.Tightness.{TightFrom}
use Rattle.archive_check.specs.Trail.{outside, unaligned, no_string, no_text, trips_within, trips_one, trips_short, trips_inline, trips_range, trips_align}
use Rattle.archive_check.proofs.Examples.Terms.{no_names, Says, Refused, refused, shares_nothing}

-- the text, a zero, and at 12 its string, which leads twelve bytes back
abbrev pub hello : List ℕ
hello = 0x68 ∷ 0x65 ∷ 0x6c ∷ 0x6c ∷ 0x6f ∷ 0x20 ∷ 0x77 ∷ 0x6f ∷ 0x72 ∷ 0x6c ∷ 0x64 ∷ 0x00 ∷ 0x8b ∷ 0x00 ∷ 0x00 ∷ 0x00 ∷ 0xf4 ∷ 0xff ∷ 0xff ∷ 0xff ∷ []

abbrev pub OutOfLine : Type 0
OutOfLine = Says no_names hello 12 str (text_value (codes "hello world"))

-- without its first byte: the string, at 11, is not aligned
abbrev pub hello_less_one : List ℕ
hello_less_one = 0x65 ∷ 0x6c ∷ 0x6c ∷ 0x6f ∷ 0x20 ∷ 0x77 ∷ 0x6f ∷ 0x72 ∷ 0x6c ∷ 0x64 ∷ 0x00 ∷ 0x8b ∷ 0x00 ∷ 0x00 ∷ 0x00 ∷ 0xf4 ∷ 0xff ∷ 0xff ∷ 0xff ∷ []

abbrev pub NotAligned : Type 0
NotAligned = Refused no_names hello_less_one 11 str (unaligned 11 4)

-- a short text in place, which ends before the first 0xff
abbrev pub hi : List ℕ
hi = 0x68 ∷ 0x69 ∷ 0xff ∷ 0xff ∷ 0xff ∷ 0xff ∷ 0xff ∷ 0xff ∷ []

abbrev pub InPlace : Type 0
InPlace = Says no_names hi 0 str (text_value (codes "hi"))

-- or after eight bytes
abbrev pub eight : List ℕ
eight = 0x31 ∷ 0x32 ∷ 0x33 ∷ 0x34 ∷ 0x35 ∷ 0x36 ∷ 0x37 ∷ 0x38 ∷ []

abbrev pub InPlaceInFull : Type 0
InPlaceInFull = Says no_names eight 0 str (text_value (codes "12345678"))

-- the bytes behind the first 0xff are not looked at
abbrev pub hi_and_more : List ℕ
hi_and_more = 0x68 ∷ 0x69 ∷ 0xff ∷ 0x00 ∷ 0x80 ∷ 0xc0 ∷ 0xff ∷ 0x69 ∷ []

abbrev pub BehindTheEnd : Type 0
BehindTheEnd = Says no_names hi_and_more 0 str (text_value (codes "hi"))

-- one byte out of line
abbrev pub short : List ℕ
short = 0x81 ∷ 0x00 ∷ 0x00 ∷ 0x00 ∷ 0xff ∷ 0xff ∷ 0xff ∷ 0xff ∷ []

abbrev pub TooShort : Type 0
TooShort = Refused no_names short 0 str no_string

-- in place, and no UTF-8
abbrev pub overlong : List ℕ
overlong = 0xc0 ∷ 0x80 ∷ 0xff ∷ 0xff ∷ 0xff ∷ 0xff ∷ 0xff ∷ 0xff ∷ []

abbrev pub NoText : Type 0
NoText = Refused no_names overlong 0 str no_text

-- no byte at all
abbrev pub NoBytes : Type 0
NoBytes = Refused no_names [] 0 str (outside (pos 0) 8 0 0)

is_hello : IsUtf8 (codes "hello world")
unfolding lib.Utf8.encode
is_hello = (codes "hello world", (refl, refl))

pub out_of_line : OutOfLine
unfolding bytes_at u32_at i32_at decoded_length
out_of_line = record {
  accepted = record {
    value = _;
    regions = _;
    seen = empty;
    flat = record { fits = lit≤ tt; reads = reads_out_of_line refl (lit≤ tt); holes = refl };
    tour = tour_unique {t = 0} refl (record { target = refl; fits = lit≤ tt; ordered = in_any_order; contents = contents_text is_hello }) tour_end tour_end;
    rising = (lit≤ tt, refl, (lit≤ tt, refl, lit≤ tt));
  };
  root_value = fills_unique {t = 0} refl (record { target = refl; fits = lit≤ tt; ordered = in_any_order; contents = contents_text is_hello }) fills_text;
  shared = shares_nothing no_names hello;
}

-- nothing could stand closer
pub hello_tight : TightFrom 0 out_of_line.accepted
unfolding out_of_line
hello_tight = (refl, (refl, refl))

pub not_aligned : NotAligned
not_aligned = refused (lit≤ tt) (trips_align {t = 11} refl (lit≤ tt) (lit≤ tt) (λ e. cc))

-- a buffer of eight bytes that is a string in place says its text
inline_says : (bytes : List ℕ) → length bytes ≡ 8 → (IsOutOfLine bytes 0 → ⊥) → IsUtf8 (before_end (bytes_at bytes 0 8)) → Says no_names bytes 0 str (text_value (before_end (bytes_at bytes 0 8)))
inline_says bytes size inline u = record {
  accepted = record {
    value = _;
    regions = [];
    seen = empty;
    flat = record { fits = omega (arith, size); reads = reads_inline inline u; holes = refl };
    tour = tour_end;
    rising = (lit≤ tt, refl, omega (arith, size));
  };
  root_value = fills_text;
  shared = shares_nothing no_names bytes;
}

pub in_place : InPlace
unfolding bytes_at lib.Utf8.encode
in_place = inline_says hi refl (λ e. cc) (codes "hi", (refl, refl))

pub in_place_in_full : InPlaceInFull
unfolding bytes_at lib.Utf8.encode
in_place_in_full = inline_says eight refl (λ e. cc) (codes "12345678", (refl, refl))

pub behind_the_end : BehindTheEnd
unfolding bytes_at lib.Utf8.encode
behind_the_end = inline_says hi_and_more refl (λ e. cc) (codes "hi", (refl, refl))

pub too_short : TooShort
unfolding bytes_at u32_at decoded_length
too_short = refused (lit≤ tt) (trips_within refl (lit≤ tt) (lit≤ tt) refl tt (trips_one (trips_short refl (lit≤ tt))))

pub no_bytes : NoBytes
no_bytes = refused (lit≤ tt) (trips_range (lit≤ tt) (λ t e above below. omega arith))

no_utf8 : IsUtf8 (0xc0 ∷ 0x80 ∷ []) → ⊥
unfolding is_utf8 chars lib.Utf8.encode
no_utf8 h = let never : false ≡ true = is_utf8-from_IsUtf8 (0xc0 ∷ 0x80 ∷ []) h in cc

pub not_text : NoText
unfolding bytes_at
not_text = refused (lit≤ tt) (trips_within refl (lit≤ tt) (lit≤ tt) refl tt (trips_one (trips_inline (λ e. cc) no_utf8)))
