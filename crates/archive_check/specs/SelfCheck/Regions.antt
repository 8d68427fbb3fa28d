-- What the lemmas of a check that follows a type alone call ways, and where parts end.
use Rattle.std.specs.Prelude.{ℕ, ◌+◌, ◌≤◌, List, Option}
use Rattle.std.proofs.Common.{inl, inr, arith}
use Rattle.archive_check.specs.Shape.{Key, Shape, Pointee, entry_of}
use Rattle.archive_check.specs.Value.{Pointer}
use Rattle.archive_check.specs.Walk.{Follow, WalkRun, WalkContents}
use Rattle.archive_check.specs.Trail.{TripsFollow, TripsEntries, TripsContents}
use Rattle.archive_check.specs.Layout.{up, size_of}
use Rattle.archive_check.specs.Keys.{Ascend}
use Rattle.archive_check.specs.Definitions.{IsAlign}
use Rattle.archive_check.specs.Outcomes.{done, refused}
use Rattle.archive_check.specs.SelfCheck.Ways.{Way}

-- The pointer is followed.
abbrev pub follow_way : List ℕ → Pointer → Way
follow_way bytes p s pending depth stop start seen (done later last) = Follow s bytes pending depth stop p start seen later last
follow_way bytes p s pending depth stop start seen (refused f) = TripsFollow s bytes pending depth stop p start seen f

-- What a region holds, at t.
abbrev pub contents_way : List ℕ → ℕ → Option Key → Pointee → ℕ → Way
contents_way bytes t o P n s pending depth stop start seen (done later last) = WalkContents s bytes pending depth stop t o P n start seen later last
contents_way bytes t o P n s pending depth stop start seen (refused f) = TripsContents s bytes pending depth stop t o P n start seen f

-- n entries of a map, the first at p, behind the one before it.
abbrev pub entries_way : List ℕ → Option ℕ → ℕ → ℕ → Key → Shape → Way
entries_way bytes before p n K V s pending depth stop start seen (done later last) =
    WalkRun s bytes pending depth stop p n (entry_of K V) start seen later last × Ascend K bytes before p (size_of s.layouts (entry_of K V)) n
entries_way bytes before p n K V s pending depth stop start seen (refused f) = TripsEntries s bytes pending depth stop before p n K V start seen f

-- an alignment is no 0.
pub align_some : (a : ℕ) → IsAlign a → 1 ≤ a
align_some a (inl e) = omega arith
align_some a (inr (inl e)) = omega arith
align_some a (inr (inr (inl e))) = omega arith
align_some a (inr (inr (inr (inl e)))) = omega arith
align_some a (inr (inr (inr (inr (inl e))))) = omega arith
align_some a (inr (inr (inr (inr (inr e))))) = omega arith

-- Parts end no lower behind one part more.
pub rises_over : (n a z : ℕ) → IsAlign a → (end : ℕ → ℕ) → ((m : ℕ) → m ≤ end m) → n ≤ end (up n a + z)
rises_over n a z is end rises = omega (arith, align_some a is, rises (up n a + z))

-- Nothing ends below itself.
pub no_lower : (n : ℕ) → n ≤ n
no_lower n = omega arith
