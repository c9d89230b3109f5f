-- The two trusts of a layer, and the versions of a log.
use Rattle.std.proofs.Common.{◌≡◌, ℕ, Bool, true, false, ◌&&◌, ◌||◌, List, ◌∷◌, ◌++◌, Some, IsTrue, refl, sym, ap, ◌∙◌, append_assoc}
use Rattle.std.specs.List.{list_any}
use Rattle.std.proofs.lemmas.List.Folds.{list_any-append}
use Rattle.mb_model.specs.declared.key.Trust.{Trust}
use Rattle.mb_model.specs.declared.entry.Entry.{Entry}
use Rattle.mb_model.specs.declared.entry.Entry.TheVariants.{Birth, Change, NewKey, Succession}
use Rattle.mb_model.specs.declared.layer.Trusts.{Trusts}
use Rattle.mb_model.specs.records.LayerFormat.{layer_format}
use Rattle.mb_model.specs.owners.Rules.{is_load, lets_load_in}
use Rattle.mb_model.specs.owners.Log.{figures_of, is_version_two, has_version_two, Ruled}
use Rattle.mb_model_laws.specs.TrustLaws.{EqualTrustsAreOneTrust, version_in, VersionsOnlyRise, VersionOneHasEqualTrusts}

pub equal_trusts_are_one : EqualTrustsAreOneTrust
equal_trusts_are_one layers kind cosigned equal = ap (λ (t : Trust). is_load (Some kind) && lets_load_in t cosigned.three) equal

has_passed : (before between : List Entry) (entry : Entry) → IsTrue (is_version_two entry) → IsTrue (has_version_two (before ++ entry ∷ between))
unfolding has_version_two
has_passed before between entry is =
    list_any-append is_version_two before (entry ∷ between)
    ∙ ap (λ b. list_any is_version_two before || (b || list_any is_version_two between)) is
    ∙ or_yes (list_any is_version_two before)
  where
    or_yes : (b : Bool) → (b || true) ≡ true
    or_yes true = refl
    or_yes false = refl

some_version : (version v : ℕ) → Some version ≡ Some v → version ≡ v
some_version version v e = cc

rises : (before : List Entry) (later : Entry) (version : ℕ) → Ruled (figures_of before) later → IsTrue (has_version_two before) → version_in later ≡ Some version → version ≡ 2
rises before (Birth v serial key layers) version ruled passed is = sym (some_version v version is) ∙ ruled.2.rises passed
rises before (Change v position number kind layer cosigned layers kept next) version ruled passed is = sym (some_version v version is) ∙ ruled.3.rises passed
rises before (NewKey position number key_number layer kind key) version ruled passed is = absurd cc
rises before (Succession position key) version ruled passed is = absurd cc

pub versions_rise : VersionsOnlyRise
versions_rise before between after entry later version ruled is named =
    rises (before ++ entry ∷ between) later version
    (ruled (before ++ entry ∷ between) later after (sym (append_assoc before (entry ∷ between) (later ∷ after))))
    (has_passed before between entry is) named

pub version_one_equal : VersionOneHasEqualTrusts
unfolding layer_format
version_one_equal bytes layer spelled = sym (ap (λ (t : Trusts). t.two) spelled.allowed.1.0.1)
