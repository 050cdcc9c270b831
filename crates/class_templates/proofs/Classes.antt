-- The template of each class: the chains of the request fill it, and it leaves what the class leaves.
-- Assumes nothing.
use Prim.Native.Nat.{ℕ}
use mathlib.Core.Path.{◌≡◌, refl}
use mathlib.Core.Bool.{true}
use mathlib.Core.List.{List}
use Rattle.drawn_chain.specs.drawable.Chains.{Chains}
use Rattle.template_rules.specs.declared.Class.{Class}
use Rattle.template_rules.specs.declared.Class.TheVariants.{Fa, Gl1, Gl2, Gl3, Gp, Cl, Sb, Sa}
use Rattle.template_rules.specs.Template.{elements, glycerol, role_of, has_tail}
use Rattle.line_builder.specs.declared.Builder.{Builder}
use Rattle.line_builder.specs.Build.{Rooms}
use Rattle.class_templates.specs.Templates.{all_slots, FilledTailless, Tailless, TailOf, FilledTailed, Tailed}
use Rattle.class_templates.specs.Classes.{Classed, ClassBuilt}

-- ---- the chains fill it

module _ {t : List ℕ} {k : ℕ} {x : Chains} where
  tailless-filled : (c : Class) → Classed c t k x → FilledTailless (elements c) (role_of c) x
  tailless-filled c w = record { tail = t; chains = w.chains; fills = record { stood = w.own.stood; fits = w.own.fits } }

  tailed-filled : (c : Class) → Classed c t k x → FilledTailed t (elements c) (role_of c) x
  tailed-filled c w = record { chains = w.chains; fills = record { stood = w.own.stood; fits = w.own.fits } }

  its-tail : (c : Class) → has_tail c ≡ true → Classed c t k x → TailOf t k
  its-tail c h w = w.own.tail h

  module _ {c : Class} (w : Classed c t k x) where
    pub fill-fa : c ≡ Fa → FilledTailless (elements Fa) (role_of Fa) x
    fill-fa e = tailless-filled Fa (rw e at w)

    pub fill-gl1 : c ≡ Gl1 → FilledTailless glycerol all_slots x
    unfolding elements
    fill-gl1 e = tailless-filled Gl1 (rw e at w)

    pub fill-gl2 : c ≡ Gl2 → FilledTailless glycerol all_slots x
    unfolding elements
    fill-gl2 e = tailless-filled Gl2 (rw e at w)

    pub fill-gl3 : c ≡ Gl3 → FilledTailless glycerol all_slots x
    unfolding elements
    fill-gl3 e = tailless-filled Gl3 (rw e at w)

    pub tail-gp : c ≡ Gp → TailOf t k
    tail-gp e = its-tail Gp refl (rw e at w)

    pub fill-gp : c ≡ Gp → FilledTailed t (elements Gp) (role_of Gp) x
    fill-gp e = tailed-filled Gp (rw e at w)

    pub fill-cl : c ≡ Cl → FilledTailless (elements Cl) (role_of Cl) x
    fill-cl e = tailless-filled Cl (rw e at w)

    pub tail-sb : c ≡ Sb → TailOf t k
    tail-sb e = its-tail Sb refl (rw e at w)

    pub fill-sb : c ≡ Sb → FilledTailed t (elements Sb) (role_of Sb) x
    fill-sb e = tailed-filled Sb (rw e at w)

    pub tail-sa : c ≡ Sa → TailOf t k
    tail-sa e = its-tail Sa refl (rw e at w)

    pub fill-sa : c ≡ Sa → FilledTailed t (elements Sa) (role_of Sa) x
    fill-sa e = tailed-filled Sa (rw e at w)

-- ---- what is left

module _ {t : List ℕ} {k : ℕ} {x : Chains} {xs ys : Rooms} {b : Builder} where
  tailless-built : (c : Class) → Tailless (elements c) (role_of c) x xs ys b → ClassBuilt c t k x xs ys b
  tailless-built c w = record { sizes = w.sizes; built = λ ds z. w.built t ds (record { stood = z.stood; fits = z.fits }) }

  tailed-built : (c : Class) → Tailed t (elements c) (role_of c) x xs ys b → ClassBuilt c t k x xs ys b
  tailed-built c w = record { sizes = w.sizes; built = λ ds z. w.built ds (record { stood = z.stood; fits = z.fits }) }

  module _ {c : Class} where
    pub class-fa : c ≡ Fa → Tailless (elements Fa) (role_of Fa) x xs ys b → ClassBuilt c t k x xs ys b
    class-fa e w = rw e (tailless-built Fa w)

    pub class-gl1 : c ≡ Gl1 → Tailless glycerol all_slots x xs ys b → ClassBuilt c t k x xs ys b
    unfolding elements
    class-gl1 e w = rw e (tailless-built Gl1 w)

    pub class-gl2 : c ≡ Gl2 → Tailless glycerol all_slots x xs ys b → ClassBuilt c t k x xs ys b
    unfolding elements
    class-gl2 e w = rw e (tailless-built Gl2 w)

    pub class-gl3 : c ≡ Gl3 → Tailless glycerol all_slots x xs ys b → ClassBuilt c t k x xs ys b
    unfolding elements
    class-gl3 e w = rw e (tailless-built Gl3 w)

    pub class-gp : c ≡ Gp → Tailed t (elements Gp) (role_of Gp) x xs ys b → ClassBuilt c t k x xs ys b
    class-gp e w = rw e (tailed-built Gp w)

    pub class-cl : c ≡ Cl → Tailless (elements Cl) (role_of Cl) x xs ys b → ClassBuilt c t k x xs ys b
    class-cl e w = rw e (tailless-built Cl w)

    pub class-sb : c ≡ Sb → Tailed t (elements Sb) (role_of Sb) x xs ys b → ClassBuilt c t k x xs ys b
    class-sb e w = rw e (tailed-built Sb w)

    pub class-sa : c ≡ Sa → Tailed t (elements Sa) (role_of Sa) x xs ys b → ClassBuilt c t k x xs ys b
    class-sa e w = rw e (tailed-built Sa w)
