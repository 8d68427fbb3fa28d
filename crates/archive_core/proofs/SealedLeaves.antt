-- A write over a leaf of what a seal shows.
use Rattle.std.proofs.Common.{◌≡◌, ℕ, ℤ, ◌+◌, ◌/◌, ◌≤◌, Bool, true, false, nat_eq, if◌then◌else◌, List, length, slice_index, IsUtf8, arith, refl, sym, ap, subst, ◌∙◌}
use Rattle.std.proofs.Math.Logic.{∥∥₁_map}
use Rattle.std.proofs.lemmas.Bool.Decides.{nat_tests}
use Rattle.archive_check.specs.Shape.{Kind, leaf, str, Pointee, one, text}
use Rattle.archive_check.specs.Layout.{kind_size}
use Rattle.archive_check.specs.Leaves.{number_leaf, text_leaf, IsFree, edit, Overwrites, overwrites_number, overwrites_text}
use Rattle.archive_check.specs.Reads.{SchemaTable, bytes_at, u32_at, kind_value, IsOutOfLine, before_end, decoded_length}
use Rattle.archive_check.specs.Readable.{target_from, string_text}
use Rattle.archive_check.specs.ComesTo.{ComesTo, to_text}
use Rattle.archive_check.specs.Revised.{WritesLeaf}
use Rattle.archive_check.specs.Laws.{LeafWritten}
use Rattle.archive_check.specs.Definitions.{Definitions, no_definition}
use Rattle.archive_check.specs.Members.PartsLayout.{knows_none}
use Rattle.archive_check.specs.Viewed.{Lies, Viewed}
use Rattle.archive_check.specs.Within.{in_string}
use Rattle.archive_check.proofs.Viewing.ViewedValues.{leaf_readable, text_readable, string_readable}
use Rattle.archive_check.proofs.Editing.EditedBytes.{bytes_long}
use Rattle.archive_check.proofs.Editing.Texts.{inline_bytes}
use Rattle.archive_check.proofs.Maps.NoKeySealed.{come_to_free}
use Rattle.archive_check.proofs.Tours.RegionsApart.{bytes_few}
use Rattle.archive_types.specs.Sealed.{Encodes, leaf_at, text_begin, string_leaf}
use Rattle.archive_types.proofs.Viewing.Shown.{leaf_shown, text_shown, string_shown}
use Rattle.archive_inspect.proofs.StandingLeaves.{leaf_stands, text_stands, string_stands}
use Rattle.archive_core.specs.SealsKept.{IsFreeIn}
use Rattle.archive_core.specs.SealOutcomes.{WritesNumber, WritesText, WritesString, string_edit}
use Rattle.archive_core.proofs.SealedParts.{text_comes}
use Rattle.archive_core.proofs.StandingParts.{writes_over}

-- it lies in the buffer
pub leaf_lies : (D : Definitions) (bytes : List ℕ) (q : ℕ) (P : Pointee) (n count : ℕ) (kind : Kind) → P ≡ one (leaf kind) → kind_size kind ≡ count → Viewed D bytes q P n → q + count ≤ length bytes
leaf_lies D bytes q P n count kind e size v = rw (← size) (leaf_shown bytes q n kind (leaf_readable D bytes q n kind (rw e at v))).fits

-- no key has a byte of it, where seals come to it
leaf_free : (bytes : List ℕ) (q : ℕ) (P : Pointee) (n : ℕ) (kind : Kind) → P ≡ one (leaf kind) → IsFreeIn bytes q P n (leaf_at kind bytes q)
leaf_free bytes q P n kind is s root X laid a h =
    let here : ComesTo s bytes root X q (one (leaf kind)) n = rw is at h in
    come_to_free s laid bytes a (leaf_at kind bytes q) here (omega arith) (omega arith)

-- so it may be written over
pub number_written : (bytes new b : List ℕ) (q : ℕ) (P : Pointee) (n : ℕ) (kind : Kind) (z : ℤ) → P ≡ one (leaf kind) → LeafWritten → Encodes kind b z → new ≡ edit bytes q b → WritesNumber kind q P n z bytes new
number_written bytes new b q P n kind z is law h e =
    let o : Overwrites b (leaf_at kind bytes q) (number_leaf q kind (kind_value kind b)) = overwrites_number h.legal in
    let w : WritesLeaf (leaf_at kind bytes q) (number_leaf q kind (kind_value kind b)) bytes new = rw e (law bytes b (leaf_at kind bytes q) (number_leaf q kind (kind_value kind b)) o) in
    rw (← h.says) (writes_over bytes new b (leaf_at kind bytes q) (number_leaf q kind (kind_value kind b)) o e q P n (λ s root X a i. leaf_stands s bytes a q n kind (rw is at i)) (leaf_free bytes q P n kind is) w)

-- texts

pub text_lies : (D : Definitions) (bytes : List ℕ) (q n m : ℕ) → m ≡ n → Viewed D bytes q text n → q + m ≤ length bytes
text_lies D bytes q n m e v = rw e (text_shown bytes q n (text_readable D bytes q n v)).fits

text_free : (bytes : List ℕ) (q n : ℕ) → IsFreeIn bytes q text n (text_leaf q (bytes_at bytes q n))
text_free bytes q n s root X laid a h = come_to_free s laid bytes a (text_leaf q (bytes_at bytes q n)) h (omega arith) (omega (arith, bytes_few bytes q n))

pub text_written : (bytes new b : List ℕ) (q n : ℕ) → LeafWritten → IsUtf8 b → length b ≡ n → q + n ≤ length bytes → new ≡ edit bytes q b → WritesText q n b bytes new
text_written bytes new b q n law u size fits e =
    let o : Overwrites b (text_leaf q (bytes_at bytes q n)) (text_leaf q b) = overwrites_text u (size ∙ sym (bytes_long bytes q n fits)) in
    let w : WritesLeaf (text_leaf q (bytes_at bytes q n)) (text_leaf q b) bytes new = rw e (law bytes b (text_leaf q (bytes_at bytes q n)) (text_leaf q b) o) in
    writes_over bytes new b (text_leaf q (bytes_at bytes q n)) (text_leaf q b) o e q text n (λ s root X a i. text_stands s bytes a q n i) (text_free bytes q n) w

-- the text of a string lies in what was checked
string_lies : {s : SchemaTable} {bytes : List ℕ} {q n : ℕ} → (IsOutOfLine bytes q → ⊥) → Lies s bytes q (one str) n → Lies s bytes q text (length (before_end (bytes_at bytes q 8)))
string_lies o l = let (r, c, i) = l.part in record { root = l.root; shape = l.shape; accepted = l.accepted; part = (r, c, in_string i o) }

-- one in place has as many bytes as stand before its end
pub inline_viewed : (D : Definitions) (bytes : List ℕ) (q n m : ℕ) → (IsOutOfLine bytes q → ⊥) → bytes_at bytes q m ≡ before_end (bytes_at bytes q 8) → m ≤ 8 → Viewed D bytes q (one str) n → Viewed D bytes q text m
inline_viewed D bytes q n m o e short v =
    let fits : q + 8 ≤ length bytes = string_shown bytes q n (string_readable D bytes q n v) in
    let same : m ≡ length (before_end (bytes_at bytes q 8)) = sym (bytes_long bytes q m (omega arith)) ∙ ap (λ t. length t) e in
    rw same (∥∥₁_map v (λ (s, k, l). (s, k, string_lies o l)))

pub inline_long : (D : Definitions) (bytes : List ℕ) (q n m : ℕ) → bytes_at bytes q m ≡ before_end (bytes_at bytes q 8) → m ≤ 8 → Viewed D bytes q (one str) n → m ≡ length (before_end (bytes_at bytes q 8))
inline_long D bytes q n m e short v =
    let fits : q + 8 ≤ length bytes = string_shown bytes q n (string_readable D bytes q n v) in sym (bytes_long bytes q m (omega arith)) ∙ ap (λ t. length t) e

-- as many as its view has
pub text_long : (D : Definitions) (bytes t : List ℕ) (q n : ℕ) → Viewed D bytes q text n → bytes_at bytes q n ≡ t → n ≡ length t
text_long D bytes t q n v e = sym (bytes_long bytes q n (text_shown bytes q n (text_readable D bytes q n v)).fits) ∙ ap (λ t. length t) e

-- no key has a byte of the text of a string, where seals come to the string
string_free_so : (bytes : List ℕ) (q n : ℕ) (b : Bool) → nat_eq (slice_index bytes q / 64) 2 ≡ b
    → IsFreeIn bytes q (one str) n (text_leaf (if b then target_from bytes q (q + 4) else q) (if b then bytes_at bytes (target_from bytes q (q + 4)) (decoded_length (u32_at bytes q)) else before_end (bytes_at bytes q 8)))
string_free_so bytes q n true e s root X laid a h =
    let o : IsOutOfLine bytes q = grind (arith, nat_tests) in
    let there = (text_comes no_definition bytes q n o).comes s root X (knows_none s laid) a h in
    text_free bytes (target_from bytes q (q + 4)) (decoded_length (u32_at bytes q)) s root X laid a there
string_free_so bytes q n false e s root X laid a h =
    let o : IsOutOfLine bytes q → ⊥ = λ k. grind (arith, nat_tests, k) in
    let there : ComesTo s bytes root X q text (length (before_end (bytes_at bytes q 8))) = to_text h o in
    let free = text_free bytes q (length (before_end (bytes_at bytes q 8))) s root X laid a there in
    subst (λ t. IsFree a (text_leaf q t)) (inline_bytes bytes q) free

string_free : (bytes : List ℕ) (q n : ℕ) → IsFreeIn bytes q (one str) n (string_leaf bytes q)
string_free bytes q n = string_free_so bytes q n _ refl

-- the text of a string, written over where it stands
pub string_written : (bytes new b : List ℕ) (q n : ℕ) → LeafWritten → IsUtf8 b → length b ≡ length (string_text bytes q) → new ≡ string_edit bytes q b → WritesString q n b bytes new
string_written bytes new b q n law u size e =
    let o : Overwrites b (string_leaf bytes q) (text_leaf (text_begin bytes q) b) = overwrites_text u size in
    let w : WritesLeaf (string_leaf bytes q) (text_leaf (text_begin bytes q) b) bytes new = rw e (law bytes b (string_leaf bytes q) (text_leaf (text_begin bytes q) b) o) in
    writes_over bytes new b (string_leaf bytes q) (text_leaf (text_begin bytes q) b) o e q (one str) n (λ s root X a i. string_stands s bytes a q n i) (string_free bytes q n) w
