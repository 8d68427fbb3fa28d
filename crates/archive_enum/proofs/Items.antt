-- What each run of calls gives, from what one call gives.
use mathlib.Core.Path.{sym, ap, ◌∙◌}
use mathlib.Core.List.{◌∷◌}
use lib.ListN.{length}
use Rattle.std.proofs.iter.runs.Sources.{from_front, as_is}
use Rattle.std.specs.Option.{option_copied, option_copied_mut, option_to_list}
use Rattle.archive_enum.specs.Items.{GivesWhatIsLeft, YieldsItsItem, YieldsItsValue, YieldsItsValueMut}

pub yields_its_item : {P : Type 0} → YieldsItsItem P
yields_its_item run t = as_is run _ (from_front GivesWhatIsLeft (λ x. x) option_to_list
    (λ left rest h. ap (λ o. length (option_to_list o)) (sym h.0))
    (λ left x rest h. ap option_to_list (sym h.0) ∙ ap (λ o. x ∷ option_to_list o) (sym h.1)) run t)

pub yields_its_value : {T : Type 0} → YieldsItsValue T
yields_its_value = from_front GivesWhatIsLeft (λ x. x.now) (λ left. option_to_list (option_copied left))
    (λ left rest h. ap (λ o. length (option_to_list (option_copied o))) (sym h.0))
    (λ left x rest h. ap (λ o. option_to_list (option_copied o)) (sym h.0) ∙ ap (λ o. x.now ∷ option_to_list (option_copied o)) (sym h.1))

pub yields_its_value_mut : {T : Type 0} → YieldsItsValueMut T
yields_its_value_mut = from_front GivesWhatIsLeft (λ x. x.now) (λ left. option_to_list (option_copied_mut left))
    (λ left rest h. ap (λ o. length (option_to_list (option_copied_mut o))) (sym h.0))
    (λ left x rest h. ap (λ o. option_to_list (option_copied_mut o)) (sym h.0) ∙ ap (λ o. x.now ∷ option_to_list (option_copied_mut o)) (sym h.1))
