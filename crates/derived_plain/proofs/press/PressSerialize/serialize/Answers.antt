-- Written by tools/derive: change the declaration, and run it again.
use Rattle.std.proofs.Common.{◌≡◌, ℕ, Some, [], ap, refl, sym}
use Rattle.archive_core.specs.Plain.{variant_in}
use Rattle.archive_core.specs.Shape.{no_part}
use Rattle.archive_core.specs.Value.{case, no_value}
use Rattle.derived_plain.specs.declared.press.Press.{Press}
use Rattle.derived_plain.specs.declared.press.Press.TheVariants.{A as PressA, B as PressB, C as PressC, Chord as PressChord, D as PressD, Digit0 as PressDigit0, Digit1 as PressDigit1, Digit2 as PressDigit2, Digit3 as PressDigit3, Digit4 as PressDigit4, Digit5 as PressDigit5, Digit6 as PressDigit6, Digit7 as PressDigit7, Digit8 as PressDigit8, Digit9 as PressDigit9, E as PressE, F as PressF, G as PressG, H as PressH, I as PressI, J as PressJ, K as PressK, L as PressL, M as PressM, N as PressN, Named as PressNamed, O as PressO, P as PressP, Q as PressQ, R as PressR, S as PressS, Scanned as PressScanned, T as PressT, U as PressU, Unknown as PressUnknown, V as PressV, W as PressW, X as PressX, Y as PressY, Z as PressZ}
use Rattle.derived_plain.specs.contracts.press.ArchivedPressPortable.TheImpl.{shape-value}
use Rattle.derived_plain.specs.contracts.press.PressArchive.TheImpl.{belongs-value, flat-value, keys-value, meaning-value}
use Rattle.derived_plain.specs.declared.press.PressResolver.TheVariants.{Unit as PressKept}
use Rattle.derived_plain.proofs.press.PressSerialize.serialize.Goals as goal

-- The tag of each.
abbrev HasTag : Press → ℕ → Type 0
HasTag v t = elim v [ PressUnknown ↦ t ≡ 0 | PressScanned a0 ↦ t ≡ 1 | PressA ↦ t ≡ 2 | PressB ↦ t ≡ 3 | PressC ↦ t ≡ 4 | PressD ↦ t ≡ 5 | PressE ↦ t ≡ 6 | PressF ↦ t ≡ 7 | PressG ↦ t ≡ 8 | PressH ↦ t ≡ 9 | PressI ↦ t ≡ 10 | PressJ ↦ t ≡ 11 | PressK ↦ t ≡ 12 | PressL ↦ t ≡ 13 | PressM ↦ t ≡ 14 | PressN ↦ t ≡ 15 | PressO ↦ t ≡ 16 | PressP ↦ t ≡ 17 | PressQ ↦ t ≡ 18 | PressR ↦ t ≡ 19 | PressS ↦ t ≡ 20 | PressT ↦ t ≡ 21 | PressU ↦ t ≡ 22 | PressV ↦ t ≡ 23 | PressW ↦ t ≡ 24 | PressX ↦ t ≡ 25 | PressY ↦ t ≡ 26 | PressZ ↦ t ≡ 27 | PressDigit0 ↦ t ≡ 28 | PressDigit1 ↦ t ≡ 29 | PressDigit2 ↦ t ≡ 30 | PressDigit3 ↦ t ≡ 31 | PressDigit4 ↦ t ≡ 32 | PressDigit5 ↦ t ≡ 33 | PressDigit6 ↦ t ≡ 34 | PressDigit7 ↦ t ≡ 35 | PressDigit8 ↦ t ≡ 36 | PressDigit9 ↦ t ≡ 37 | PressNamed a0 ↦ t ≡ 38 | PressChord a0 a1 ↦ t ≡ 39 ]

abbrev HasNoField : Press → Type 0
HasNoField v = elim v [ PressScanned a0 ↦ ⊥ | PressNamed a0 ↦ ⊥ | PressChord a0 a1 ↦ ⊥ | w ↦ Unit {0} ]

-- No part is behind its tag.
has_no_part : (v : Press) (t : ℕ) → HasNoField v → HasTag v t → variant_in (shape-value).it t ≡ Some no_part
has_no_part v t = elim v as (λ v. HasNoField v → HasTag v t → variant_in (shape-value).it t ≡ Some no_part) [
  | PressScanned a0 ↦ λ none tagged. absurd none
  | PressNamed a0 ↦ λ none tagged. absurd none
  | PressChord a0 a1 ↦ λ none tagged. absurd none
  | w ↦ λ none tagged. rw tagged refl
]

-- It means its tag, with nothing of its own.
record IsPlain (v : Press) (t : ℕ) : Type 0 where
  keys : (keys-value).it v ≡ []
  meaning : (meaning-value).it v ≡ case t no_value
  flat : (flat-value).it v PressKept ≡ case t no_value
  belongs : (belongs-value).it v PressKept

is_plain : (v : Press) (t : ℕ) → HasNoField v → HasTag v t → IsPlain v t
is_plain v t = elim v as (λ v. HasNoField v → HasTag v t → IsPlain v t) [
  | PressScanned a0 ↦ λ none tagged. absurd none
  | PressNamed a0 ↦ λ none tagged. absurd none
  | PressChord a0 a1 ↦ λ none tagged. absurd none
  | w ↦ λ none tagged. record {
    keys = refl;
    meaning = ap (λ n. case n no_value) (sym tagged);
    flat = ap (λ n. case n no_value) (sym tagged);
    belongs = tt;
  }
]

pub serialize_case_0-requires-clause-variant : goal.serialize_case_0-requires-clause-variant
serialize_case_0-requires-clause-variant g c = has_no_part c.args.self.now c.tag.result ((elim c.args.self.now as (λ v. c.args.self.now ≡ v → HasNoField v) [ PressScanned a0 ↦ λ e. c.in_default.not-Scanned a0 e | PressNamed a0 ↦ λ e. c.in_default.not-Named a0 e | PressChord a0 a1 ↦ λ e. c.in_default.not-Chord a0 a1 e | v ↦ λ e. tt ]) refl) c.tag.ensures

pub returns-in-Ok-serialize_case_0 : goal.returns-in-Ok-serialize_case_0
returns-in-Ok-serialize_case_0 g c =
    let it = is_plain c.args.self.now c.tag.result ((elim c.args.self.now as (λ v. c.args.self.now ≡ v → HasNoField v) [ PressScanned a0 ↦ λ e. c.in_default.not-Scanned a0 e | PressNamed a0 ↦ λ e. c.in_default.not-Named a0 e | PressChord a0 a1 ↦ λ e. c.in_default.not-Chord a0 a1 e | v ↦ λ e. tt ]) refl) c.tag.ensures in
    record {
      serialized = rw (it.keys, it.meaning, it.flat) c.in-Ok-serialize_case_0.ensures.serialized;
      same_value = it.belongs;
      goes_on = c.serialize_case_0.ensures.goes_on;
      refused = tt;
    }
