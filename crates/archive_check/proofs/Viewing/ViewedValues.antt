-- What leaves, texts and strings say, and that they may be read.
use Rattle.std.proofs.Common.{◌≡◌, ℕ, ◌+◌, ◌/◌, pos, ◌+ℤ◌, List, [], slice_index, None, Bool, true, false, nat_eq, if◌then◌else◌, Contains, IsUtf8, arith, refl}
use Rattle.std.proofs.lemmas.Bool.Decides.{nat_tests}
use Rattle.std.proofs.Math.Logic.{∥∥₁_map}
use Rattle.std.proofs.lemmas.List.Elements.{Contains-push}
use Rattle.archive_check.specs.Shape.{Kind, leaf, str, Pointee, one, text}
use Rattle.archive_check.specs.Layout.{kind_size}
use Rattle.archive_check.specs.Value.{Pointer, Value, number, text_value, hole, pointers}
use Rattle.archive_check.specs.Reads.{SchemaTable, bytes_at, u32_at, i32_at, kind_value, IsLegal, IsOutOfLine, before_end, decoded_length, string_at, reads_leaf, reads_inline, reads_out_of_line}
use Rattle.archive_check.specs.Tour.{Contents, Leads, contents_one, contents_text}
use Rattle.archive_check.specs.Denotes.{Fills, fills_number, fills_text, fills_unique}
use Rattle.archive_check.specs.Definitions.{Definitions, Knows}
use Rattle.archive_check.specs.Readable.{Readable, readable_leaf, readable_text, readable_inline, readable_out_of_line, target_from, string_text}
use Rattle.archive_check.specs.Viewed.{Lies, Viewed, Says}
use Rattle.archive_check.proofs.Viewing.Viewed.{lies_fits, lies_reads, lies_leads, lies_followed}

-- leaves

leaf_is : {s : SchemaTable} {bytes : List ℕ} {q n : ℕ} {kind : Kind} {v : Value} → Contents s bytes q (one (leaf kind)) n v → v ≡ number (kind_value kind (bytes_at bytes q (kind_size kind)))
leaf_is (contents_one (reads_leaf l)) = refl

leaf_legal : {s : SchemaTable} {bytes : List ℕ} {q n : ℕ} {kind : Kind} {v : Value} → Contents s bytes q (one (leaf kind)) n v → IsLegal kind (bytes_at bytes q (kind_size kind))
leaf_legal (contents_one (reads_leaf l)) = l

-- a value that agrees with a leaf where its bytes are legal is what it says
pub leaf_says : (D : Definitions) (bytes : List ℕ) (q n : ℕ) (kind : Kind) (w : Value) → (IsLegal kind (bytes_at bytes q (kind_size kind)) → number (kind_value kind (bytes_at bytes q (kind_size kind))) ≡ w)
    → Says D bytes q (one (leaf kind)) n w
leaf_says D bytes q n kind w h = record { fills = λ s v k l c. rw (leaf_is c, ← h (leaf_legal c)) fills_number }

pub leaf_readable : (D : Definitions) (bytes : List ℕ) (q n : ℕ) (kind : Kind) → Viewed D bytes q (one (leaf kind)) n → ∥ Readable bytes q (one (leaf kind)) n ∥₁
leaf_readable D bytes q n kind v = ∥∥₁_map v (λ (s, k, l). readable_leaf (lies_fits s bytes k.laid_out l) (leaf_legal (lies_reads s bytes l).1))

-- texts

text_utf8 : {s : SchemaTable} {bytes : List ℕ} {q n : ℕ} {v : Value} → Contents s bytes q text n v → IsUtf8 (bytes_at bytes q n)
text_utf8 (contents_text u) = u

text_is : {s : SchemaTable} {bytes : List ℕ} {q n : ℕ} {v : Value} → Contents s bytes q text n v → v ≡ text_value (bytes_at bytes q n)
text_is (contents_text u) = refl

pub text_says : (D : Definitions) (bytes : List ℕ) (q n : ℕ) → Says D bytes q text n (text_value (bytes_at bytes q n))
text_says D bytes q n = record { fills = λ s v k l c. rw (text_is c) fills_text }

text_lies : {s : SchemaTable} {D : Definitions} {bytes : List ℕ} {q n : ℕ} → Knows s D → Lies s bytes q text n → Readable bytes q text n
text_lies {s = s} {bytes = bytes} k l = readable_text (lies_fits s bytes k.laid_out l) (text_utf8 (lies_reads s bytes l).1)

pub text_readable : (D : Definitions) (bytes : List ℕ) (q n : ℕ) → Viewed D bytes q text n → ∥ Readable bytes q text n ∥₁
text_readable D bytes q n v = ∥∥₁_map v (λ (s, k, l). text_lies k l)

-- a unique pointer's hole is filled with what its target says
pub hole_fills : (s : SchemaTable) (D : Definitions) (bytes : List ℕ) (q n : ℕ) (P : Pointee) (v : Value) (p : Pointer) (t : ℕ) (w : Value) → Knows s D → Lies s bytes q P n → Contents s bytes q P n v
    → Contains (pointers v) p → p.sharing ≡ None → p.target ≡ pos t → Says D bytes t p.pointee p.length w → Fills s bytes (hole p) w
hole_fills s D bytes q n P v p t w k l c h unique there says =
    let (u, e, i) = lies_leads s bytes l c p h in
    let same : u ≡ t = cc in
    let lies : Lies s bytes t p.pointee p.length = rw same at i in
    let (z, x, followed) = lies_followed s bytes l c p h in
    let target = followed.target in
    let here : z ≡ t = cc in
    let leads : Leads s bytes p t x = rw here at followed in
    fills_unique unique leads (says.fills s x k lies leads.contents)

-- strings

inline_utf8 : {s : SchemaTable} {bytes : List ℕ} {q n : ℕ} {v : Value} → (IsOutOfLine bytes q → ⊥) → Contents s bytes q (one str) n v → IsUtf8 (before_end (bytes_at bytes q 8))
inline_utf8 o (contents_one (reads_inline i u)) = u
inline_utf8 o (contents_one (reads_out_of_line i u)) = absurd (o i)

inline_is : {s : SchemaTable} {bytes : List ℕ} {q n : ℕ} {v : Value} → (IsOutOfLine bytes q → ⊥) → Contents s bytes q (one str) n v → v ≡ text_value (before_end (bytes_at bytes q 8))
inline_is o (contents_one (reads_inline i u)) = refl
inline_is o (contents_one (reads_out_of_line i u)) = absurd (o i)

out_is : {s : SchemaTable} {bytes : List ℕ} {q n : ℕ} {v : Value} → IsOutOfLine bytes q → Contents s bytes q (one str) n v → v ≡ hole (string_at bytes q)
out_is o (contents_one (reads_inline i u)) = absurd (i o)
out_is o (contents_one (reads_out_of_line i u)) = refl

-- the text that an out-of-line string leads to
out_leads : {s : SchemaTable} {bytes : List ℕ} {q n : ℕ} {v : Value} → IsOutOfLine bytes q → Lies s bytes q (one str) n → Contents s bytes q (one str) n v
    → (pos q +ℤ i32_at bytes (q + 4) ≡ pos (target_from bytes q (q + 4))) × Lies s bytes (target_from bytes q (q + 4)) text (decoded_length (u32_at bytes q))
out_leads {s = s} {bytes = bytes} {q = q} o l c =
    let (t, e, i) = lies_leads s bytes l (rw (out_is o c) at c) (string_at bytes q) (Contains-push [] (string_at bytes q)) in
    let there : pos q +ℤ i32_at bytes (q + 4) ≡ pos t = e in
    rw there (refl, i)

-- it is a view of its own
pub out_viewed : (D : Definitions) (bytes : List ℕ) (q n : ℕ) → IsOutOfLine bytes q → Viewed D bytes q (one str) n → Viewed D bytes (target_from bytes q (q + 4)) text (decoded_length (u32_at bytes q))
out_viewed D bytes q n o v = ∥∥₁_map v (λ (s, k, l). (s, k, (out_leads o l (lies_reads s bytes l).1).1))

string_lies : {s : SchemaTable} {D : Definitions} {bytes : List ℕ} {q n : ℕ} (b : Bool) → nat_eq (slice_index bytes q / 64) 2 ≡ b → Knows s D → Lies s bytes q (one str) n → Readable bytes q (one str) n
string_lies {s = s} {bytes = bytes} {q = q} true e k l =
    let o : IsOutOfLine bytes q = grind (arith, nat_tests) in
    let (there, i) = out_leads o l (lies_reads s bytes l).1 in
    readable_out_of_line (lies_fits s bytes k.laid_out l) o there (text_lies k i)
string_lies {s = s} {bytes = bytes} {q = q} false e k l =
    let o : IsOutOfLine bytes q → ⊥ = λ h. grind (arith, nat_tests, h) in
    readable_inline (lies_fits s bytes k.laid_out l) o (inline_utf8 o (lies_reads s bytes l).1)

pub string_readable : (D : Definitions) (bytes : List ℕ) (q n : ℕ) → Viewed D bytes q (one str) n → ∥ Readable bytes q (one str) n ∥₁
string_readable D bytes q n v = ∥∥₁_map v (λ (s, k, l). string_lies (nat_eq (slice_index bytes q / 64) 2) refl k l)

pub inline_says : (D : Definitions) (bytes : List ℕ) (q n : ℕ) → (IsOutOfLine bytes q → ⊥) → Says D bytes q (one str) n (text_value (before_end (bytes_at bytes q 8)))
inline_says D bytes q n o = record { fills = λ s v k l c. rw (inline_is o c) fills_text }

pub out_says : (D : Definitions) (bytes : List ℕ) (q n : ℕ) → IsOutOfLine bytes q → Says D bytes q (one str) n (text_value (bytes_at bytes (target_from bytes q (q + 4)) (decoded_length (u32_at bytes q))))
out_says D bytes q n o = record {
  fills = λ s v k l c.
      let there = (out_leads o l c).0 in
      let here : Contents s bytes q (one str) n (hole (string_at bytes q)) = rw (out_is o c) at c in
      rw (out_is o c) (hole_fills s D bytes q n (one str) (hole (string_at bytes q)) (string_at bytes q) _ _ k l here (Contains-push [] (string_at bytes q)) refl there (text_says D bytes _ _));
}

string_says_so : (D : Definitions) (bytes : List ℕ) (q n : ℕ) (b : Bool) → nat_eq (slice_index bytes q / 64) 2 ≡ b
    → Says D bytes q (one str) n (text_value (if b then bytes_at bytes (target_from bytes q (q + 4)) (decoded_length (u32_at bytes q)) else before_end (bytes_at bytes q 8)))
string_says_so D bytes q n true e = let o : IsOutOfLine bytes q = grind (arith, nat_tests) in out_says D bytes q n o
string_says_so D bytes q n false e = let o : IsOutOfLine bytes q → ⊥ = λ h. grind (arith, nat_tests, h) in inline_says D bytes q n o

pub string_says : (D : Definitions) (bytes : List ℕ) (q n : ℕ) → Says D bytes q (one str) n (text_value (string_text bytes q))
string_says D bytes q n = string_says_so D bytes q n _ refl
