-- Definitions and keys of two parts are those of each.
use Rattle.std.specs.Prelude.{List, [], ◌∷◌, ◌++◌}
pub use Rattle.archive_check.specs.Members.PartsLayout.{knows_left, knows_right}
use Rattle.archive_check.specs.Denotes.{Naming}
use Rattle.archive_types.specs.Writing.{NameMap, AreNamed}

pub named_left : (names : NameMap) (ks ls : List Naming) → AreNamed names (ks ++ ls) → AreNamed names ks
named_left names [] ls h = tt
named_left names (k ∷ ks) ls h = (h.0, named_left names ks ls h.1)

pub named_right : (names : NameMap) (ks ls : List Naming) → AreNamed names (ks ++ ls) → AreNamed names ls
named_right names [] ls h = h
named_right names (k ∷ ks) ls h = named_right names ks ls h.1
