-- What the program reads at a point lies there by the rules of reading.
use Rattle.std.proofs.Common.{◌≡◌, ℕ, pos, List, ap, ◌∙◌, Some, slice_index, Bor}
use Rattle.archive_inspect.specs.declared.describe.Content.TheVariants.{Leaf as LeafContent, Text as TextContent, Tag as TagContent, Pointer as PointerContent, Again as AgainContent, Null as NullContent}
use Rattle.archive_inspect.specs.declared.walk.Region.{Region}
use Rattle.archive_inspect.specs.declared.walk.leaves.Leaf.{Leaf}
use Rattle.archive_inspect.specs.declared.ways.Point.{Point}
use Rattle.archive_schema.specs.declared.shape.Schema.{Schema as RustSchema}
use Rattle.archive_check.specs.Layout.{kind_size}
use Rattle.archive_check.specs.Reads.{bytes_at, i32_at, IsOutOfLine, before_end}
use Rattle.archive_check.specs.Shape.{Name, Kind, Flavor, leaf, choice, str, weak, Pointee, Parts, Variants, variant_at}
use Rattle.archive_check.specs.Value.{Pointer}
use Rattle.archive_inspect.specs.Leaves.{IsLeafRead}
use Rattle.archive_inspect.specs.Ways.{a_value, a_text}
use Rattle.archive_inspect.specs.Points.{end_of_way, Under, PointsFrom, points_from}
use Rattle.archive_inspect.specs.Described.{told_region, content_leaf, content_text, content_inline, content_tag, content_pointer, content_again, content_null, HasContent, TakesSize}

module _ (f : RustSchema) where
  module _ (a : Point) where
    module _ (bytes : List ℕ) where
      pub leaf_holds : {kind : Kind} {l : Leaf} {n : ℕ} → end_of_way a.thing ≡ a_value (leaf kind) → n ≡ kind_size kind → IsLeafRead kind bytes a.at l → HasContent f bytes a n (LeafContent l)
      leaf_holds e n r s know = rw (e, n) (content_leaf r)

      pub text_holds : {n : ℕ} {t : Bor (List ℕ)} → end_of_way a.thing ≡ a_text n → t.now ≡ bytes_at bytes a.at n → HasContent f bytes a n (TextContent t)
      text_holds e h s know = rw e (content_text h)

      pub string_holds : {t : Bor (List ℕ)} → end_of_way a.thing ≡ a_value str → (IsOutOfLine bytes a.at → ⊥) → t.now ≡ before_end (bytes_at bytes a.at 8) → HasContent f bytes a 8 (TextContent t)
      string_holds e here h s know = rw e (content_inline here h)

      pub tag_holds : {name : Name} {variants : Variants} {ps : Parts} {tag : ℕ} {shown : Bor Name} → end_of_way a.thing ≡ a_value (choice name variants) → slice_index bytes a.at ≡ tag → variant_at variants tag ≡ Some ps
          → HasContent f bytes a 1 (TagContent tag shown)
      tag_holds {name} {variants} {ps} {tag} e t v s know =
          let here : variant_at variants (slice_index bytes a.at) ≡ Some ps = ap (variant_at variants) t ∙ v in
          rw (e, ← t) (content_tag here)

      pub pointer_holds : {P : Pointer} {r : Region} {n : ℕ} → PointsFrom bytes a P → Under f (λ s. r ≡ told_region s P) → TakesSize f a n → HasContent f bytes a n (PointerContent r)
      pointer_holds (points_from {X = X} e h) told takes s know = rw (e, told s know, takes s know X e) (content_pointer h)

      pub again_holds : {P : Pointer} {r : Region} {n : ℕ} {flavor : Flavor} → PointsFrom bytes a P → P.sharing ≡ Some flavor → Under f (λ s. r ≡ told_region s P) → TakesSize f a n → HasContent f bytes a n (AgainContent r)
      again_holds (points_from {X = X} e h) shared told takes s know = rw (e, told s know, takes s know X e) (content_again h shared)

      pub null_holds : {flavor : Flavor} {P : Pointee} {n : ℕ} → end_of_way a.thing ≡ a_value (weak flavor P) → i32_at bytes a.at ≡ pos 1 → TakesSize f a n → HasContent f bytes a n NullContent
      null_holds {flavor} {P} e one takes s know = rw (e, takes s know (weak flavor P) e) (content_null one)
