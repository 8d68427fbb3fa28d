-- Elements that are laid out one behind another are an array in a region of its own.
use Rattle.std.proofs.Common.{◌≡◌, inl, inr, ℕ, ◌+◌, ◌*◌, ◌≤◌, List, length, sym, subst, ◌∙◌, Result, Ok, Err, IfOk, OnOk}
use Rattle.std.specs.Prelude.{IfErr}
use Rattle.archive_check.specs.Shape.{Shape, array, one}
use Rattle.archive_check.specs.Layout.{Layout}
use Rattle.archive_check.specs.Definitions.{Definitions, HasLayout, IsAlign}
use Rattle.archive_check.specs.SelfCheck.Arrays.{array_layout, array_has_layout}
use Rattle.archive_check.specs.Value.{Value, Values, list}
use Rattle.archive_check.specs.WriterState.{WriterState, Pads}
use Rattle.archive_check.specs.declared.format.error.Error.{Error}
use Rattle.archive_check.specs.Denotes.{Naming}
use Rattle.archive_write.specs.Written.{GoesOn, padding, ExplainsRefusal}
use Rattle.archive_types.specs.Writing.{Puts}
use Rattle.archive_types.specs.Plans.{SerializedRegion}
use Rattle.archive_types.specs.Causes.{Explains, HindersRegionAt, IsRegionRefused}
use Rattle.archive_types.specs.Runs.{each_keys, each_meaning, SerializedRun, IsRunRefused, PutsRun, HindersRunAt}
use Rattle.archive_types.specs.Members.Arrays.{value_if, keys_if, array_meaning, array_keys}
use Rattle.archive_types.proofs.Writing.Arrays.{serialized_list, list_refused, list_hindered, resolves_list, all_there}
use Rattle.archive_types.proofs.Planning.Causes.{explains_sooner, err_from}
use Rattle.archive_types.proofs.Planning.Planned.{serialized_one, one_owned, one_padded, one_hindered}

module _ (D : Definitions) (X : Shape) (n : ℕ) where
  array_put : (ws : Values) (L : Layout) (low new : WriterState) → PutsRun D low new X L n ws → Puts D low new (array n X) (array_layout n L) (list ws)
  array_put ws L low new h = record {
    layout = array_has_layout n D X L h.layout;
    added = h.added;
    grown = h.grown;
    sized = h.sized;
    resolved = resolves_list D X (length low.bytes) h.added n ws (record { reads = h.reads; clean = h.clean });
    states = h.states;
  }

  array_hindered_there : (ws : Values) (L : Layout) (low new : WriterState) (e : Error)
      → Explains (HindersRunAt D X L n ws (length low.bytes)) (λ m. m ≤ length low.bytes + n * L.size) low new e
      → Explains (HindersRegionAt D (array n X) (array_layout n L) (list ws) (length low.bytes)) (λ m. m ≤ length low.bytes + n * L.size) low new e
  array_hindered_there ws L low new e h = explains_sooner _ _ _ _ low new e
      (λ x. elim x [
        | inl y ↦ inl y
        | inr y ↦ inr (list_hindered D X n ws (length low.bytes) e y)
      ])
      (λ m x. x) h

  module _ (ks : List Naming) (vs : Values) where
    pub array_stored_if : (r : Result ℕ Error) (ws : Values) (L : Layout) (position : ℕ) (old mid low new : WriterState) → SerializedRun D X n ks vs ws old mid → Pads L.align mid low → OnOk r (PutsRun D low new X L n ws)
        → position ≡ length low.bytes → IfOk r (λ t. t ≡ position) → IfOk r (λ t. SerializedRegion D (one (array n X)) 0 ks (list vs) t old new)
    array_stored_if (Ok t) ws L position old mid low new h pads puts here at =
        serialized_one D (array n X) ks (list vs) (list ws) (array_layout n L) t old mid low new (serialized_list D X n ks vs old mid ws h) pads (array_put ws L low new puts) (at ∙ here)
    array_stored_if (Err e) ws L position old mid low new h pads puts here at = tt

    -- what they own isn't written
    pub array_owned : (old new : WriterState) (e : Error) → IsRunRefused D X n ks vs old new e → IsRegionRefused D (one (array n X)) 0 ks (list vs) old new e
    array_owned old new e h = one_owned D (array n X) ks (list vs) old new e (list_refused D X n ks vs old new e h)

    -- nor the zeros behind that
    pub array_padded : (ws : Values) (L : Layout) (position : ℕ) (old mid new : WriterState) (e : Error) → IsAlign L.align → HasLayout D X L → SerializedRun D X n ks vs ws old mid → GoesOn old mid
        → position ≡ length mid.bytes → GoesOn mid new → ExplainsRefusal (padding L.align position) position (length new.bytes) mid.room mid.failures new.failures e → IsRegionRefused D (one (array n X)) 0 ks (list vs) old new e
    array_padded ws L position old mid new e is layout h g here k refused =
        one_padded D (array n X) ks (list vs) (list ws) (array_layout n L) position old mid new e is (array_has_layout n D X L layout) (serialized_list D X n ks vs old mid ws h) g here k refused

    -- nor the elements
    pub array_not_put : (ws : Values) (L : Layout) (old mid low new : WriterState) (e : Error) → HasLayout D X L → SerializedRun D X n ks vs ws old mid → Pads L.align mid low → GoesOn old low → GoesOn low new
        → Explains (HindersRunAt D X L n ws (length low.bytes)) (λ m. m ≤ length low.bytes + n * L.size) low new e → IsRegionRefused D (one (array n X)) 0 ks (list vs) old new e
    array_not_put ws L old mid low new e layout h pads g k refused =
        one_hindered D (array n X) ks (list vs) (list ws) (array_layout n L) old mid low new e (array_has_layout n D X L layout) (serialized_list D X n ks vs old mid ws h) pads g k (array_hindered_there ws L low new e refused)

-- as many as the type says

module _ {A : Type 0} (D : Definitions) (X : Shape) (n : ℕ) (k : A → List Naming) (m : A → Value) (xs : List A) (count : length xs ≡ n) (old new : WriterState) where
  whole_array_stored : (t : ℕ) → SerializedRegion D (one (array (length xs) X)) 0 (each_keys k xs) (list (each_meaning m xs)) t old new
      → SerializedRegion D (one (array n X)) 0 (array_keys n k xs) (array_meaning n m xs) t old new
  whole_array_stored t h = subst (λ c. SerializedRegion D (one (array n X)) 0 (keys_if c (each_keys k xs)) (value_if c (list (each_meaning m xs))) t old new) (sym (all_there xs n count))
      (subst (λ c. SerializedRegion D (one (array c X)) 0 (each_keys k xs) (list (each_meaning m xs)) t old new) count h)

  whole_array_refused : (e : Error) → IsRegionRefused D (one (array (length xs) X)) 0 (each_keys k xs) (list (each_meaning m xs)) old new e
      → IsRegionRefused D (one (array n X)) 0 (array_keys n k xs) (array_meaning n m xs) old new e
  whole_array_refused e h = subst (λ c. IsRegionRefused D (one (array n X)) 0 (keys_if c (each_keys k xs)) (value_if c (list (each_meaning m xs))) old new e) (sym (all_there xs n count))
      (subst (λ c. IsRegionRefused D (one (array c X)) 0 (each_keys k xs) (list (each_meaning m xs)) old new e) count h)

  pub whole_array_if : (r : Result ℕ Error) → IfOk r (λ t. SerializedRegion D (one (array (length xs) X)) 0 (each_keys k xs) (list (each_meaning m xs)) t old new)
      → IfOk r (λ t. SerializedRegion D (one (array n X)) 0 (array_keys n k xs) (array_meaning n m xs) t old new)
  whole_array_if (Ok t) h = whole_array_stored t h
  whole_array_if (Err e) h = tt

  pub no_whole_array : (r : Result ℕ Error) → IfErr r (λ e. IsRegionRefused D (one (array (length xs) X)) 0 (each_keys k xs) (list (each_meaning m xs)) old new e)
      → IfErr r (λ e. IsRegionRefused D (one (array n X)) 0 (array_keys n k xs) (array_meaning n m xs) old new e)
  no_whole_array r h = err_from r h whole_array_refused
