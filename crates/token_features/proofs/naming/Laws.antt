-- A law of what an abbreviation names: no alias ring is a group as well, so the order of the two tests says nothing.
-- Assumes nothing.
use Prim.Native.Nat.{ℕ}
use native.Mathlib.Omega.{arith}
use mathlib.Core.Path.{◌≡◌, refl, sym, ap, ◌∙◌}
use mathlib.Core.Bool.{Bool, true, false, cond}
use mathlib.Core.List.{List}
use Rattle.scanner.specs.scan.Part.{same_bytes}
use Rattle.scanner.proofs.part.Laws.{same-equal}
use Rattle.group_table.specs.groups.Groups.{entries, lookup_from, substituent_of, alias_ring_size, ep_upper_text, ep_lower_text, epox_text, cyc_text, cyclo_text}
use Rattle.std.specs.Prelude.{Option, Some, None}
use Rattle.token_features.specs.features.Features.{feature_of}
use Rattle.token_features.specs.declared.features.Feature.TheVariants.{Group}
use Rattle.token_features.proofs.features.Laws.{names-group}

-- a text that names no group is not one that does
not_named : (s t : List ℕ) (row : ℕ) → substituent_of s ≡ Some row → substituent_of t ≡ None → same_bytes s t ≡ true → ⊥
not_named s t row e n h =
    let k : Some row ≡ None = sym e ∙ ap substituent_of (same-equal s t h) ∙ n in
    let z : ◌≡◌ {A = ℕ} 0 1 = cc in
    absurd (omega arith)

group-no-ring : (s : List ℕ) (row : ℕ) → substituent_of s ≡ Some row → alias_ring_size s ≡ None
unfolding alias_ring_size substituent_of lookup_from entries same_bytes
group-no-ring s row e = go (same_bytes s ep_upper_text) (same_bytes s ep_lower_text) (same_bytes s epox_text) (same_bytes s cyc_text) (same_bytes s cyclo_text) refl refl refl refl refl
  where
    go : (a b c d f : Bool) → same_bytes s ep_upper_text ≡ a → same_bytes s ep_lower_text ≡ b → same_bytes s epox_text ≡ c → same_bytes s cyc_text ≡ d → same_bytes s cyclo_text ≡ f
        → cond {A = Option ℕ} a (Some 2) (cond b (Some 2) (cond c (Some 2) (cond d (Some 3) (cond f (Some 3) None)))) ≡ None
    go true b c d f i j k l m = absurd (not_named s ep_upper_text row e refl i)
    go false true c d f i j k l m = absurd (not_named s ep_lower_text row e refl j)
    go false false true d f i j k l m = absurd (not_named s epox_text row e refl k)
    go false false false true f i j k l m = absurd (not_named s cyc_text row e refl l)
    go false false false false true i j k l m = absurd (not_named s cyclo_text row e refl m)
    go false false false false false i j k l m = refl

pub feature-group : (abbr : List ℕ) (g : Option ℕ) (row : ℕ) → g ≡ substituent_of abbr → g ≡ Some row → Group row ≡ feature_of abbr
feature-group abbr g row e f = names-group abbr None (sym (group-no-ring abbr row (sym e ∙ f))) refl g e row f
