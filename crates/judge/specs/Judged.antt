-- What the judged request of the code holds. Assumes nothing.
use Rattle.std.specs.Prelude.{ℕ, suc, ◌≤◌, ◌≡◌, ◌&&◌, Bool, cond, List, [], ◌∷◌, length, Option, None, Some, Result, Ok, Err}
use Rattle.std.specs.Option.{is_none}
use Rattle.chain_record.specs.declared.plain.ChainPrefix.{ChainPrefix}
use Rattle.chain_record.specs.declared.refusal.Refusal.{Refusal}
use Rattle.chain_record.specs.refusal.Refusal.{number_of, number_due}
use Rattle.chain_record.specs.plain.Chain.{Chain, Outcome, Read, Refused as Record-as-Refused}
use Rattle.tail_grammar.specs.tail.Grammar.{atoms_of_tail}
use Rattle.chain_rules.specs.declared.chain.Role.{Role}
use Rattle.chain_rules.specs.chain.Refusals.{place_refusal, draw_refusal}
use Rattle.template_rules.specs.declared.Class.{Class}
use Rattle.template_rules.specs.Template.{role_of}
use Rattle.drawn_chain.specs.drawable.Drawn.{Drawn, drawn_of, Draws}
use Rattle.drawn_chain.specs.drawable.Chains.{Chains, drawn_in}
use Rattle.drawn_chain.specs.declared.rooms.Lists.{Lists}
use Rattle.request_chains.specs.chain_shapes.Shapes.{chains_kept}
use Rattle.drawn_chain.specs.declared.drawable.Shape.{Shape}
use Rattle.judge.specs.declared.Fault as code
use Rattle.judge.specs.declared.Drawable as code_drawable
use Rattle.judge.specs.declared.Faults.{Faults}
use Rattle.judge.specs.declared.Reasons.{Reasons}
use Rattle.judge.specs.declared.Looked.{Looked}
use Rattle.judge.specs.Verdict.{Verdict, Refused, Drawable, Fault, Nothing, Due, fault_at, earlier_of, kind_refusal}

-- chains as they are drawn in a class, one by one, the first of them the token with the place p
pub data DrawsAll : Class → ℕ → List Drawn → List Chain → Type 0 where
  none : {c : Class} {p : ℕ} → DrawsAll c p [] []
  more : {c : Class} {p : ℕ} {x : Drawn} {d : Chain} {xs : List Drawn} {ds : List Chain} → Draws (role_of c p) d x → DrawsAll c (suc p) xs ds → DrawsAll c p (x ∷ xs) (d ∷ ds)

-- x holds the chains ds as a class draws them
pub record Drawing (c : Class) (ds : List Chain) (x : Chains) : Type 0 where
  pub few : x.count ≤ 4
  pub counted : x.count ≡ length ds
  pub drawn : DrawsAll c 1 (drawn_in x) ds

-- 01's fault of each case of the code's
abbrev pub fault_of : Option code.Fault → Fault
fault_of None = Nothing
fault_of (Some f) = Due (number_of f.refusal) f.place

-- the code's fault of a refusal that may be due
abbrev pub fault_from : Option Refusal → ℕ → Option code.Fault
fault_from None p = None
fault_from (Some r) p = Some (record { refusal = r; place = p })

-- 01's number and the values of each case, as a verdict on a request with n tokens and the tail t has them: the class, and the chains whose
-- shapes are xs and whose lists are l, with the atoms of the tail; or the refusal's number and place
abbrev pub JudgedIs : Result code_drawable.Drawable code.Fault → ℕ → List Shape → List Lists → List ℕ → Verdict → Type 0
JudgedIs (Ok d) n xs l t (Drawable c ds) = (d.class ≡ c) × Drawing c ds (chains_kept n xs l) × (d.tail_atoms ≡ atoms_of_tail t)
JudgedIs (Ok d) n xs l t (Refused m p) = ⊥
JudgedIs (Err f) n xs l t (Drawable c ds) = ⊥
JudgedIs (Err f) n xs l t (Refused m p) = (number_of f.refusal ≡ m) × (f.place ≡ p)

-- ---- what is known of the tokens that were looked at

-- n is the refusal 22, or 0, of every chain with a prefix p and c carbons
pub record KindIs (r : Role) (p : ChainPrefix) (c n : ℕ) : Type 0 where
  pub is : (d : Chain) → d.prefix ≡ p → d.carbon ≡ c → n ≡ kind_refusal r d

-- what the reasons n and a shape, with the lists l, are of a chain in a place that is r's
pub record ChainSeen (r : Role) (n : Reasons) (s : Shape) (l : Lists) (d : Chain) : Type 0 where
  pub kind : number_due n.kind ≡ kind_refusal r d
  pub place : number_due n.place ≡ place_refusal r d
  pub draw : number_due n.draw ≡ draw_refusal r d
  pub drawn : Draws r d (drawn_of s l)

-- each case of a token that was looked at, as an outcome has it
abbrev pub SeenIs : Role → Result Looked Refusal → Lists → Outcome → Type 0
SeenIs r (Ok x) l (Read d) = ChainSeen r x.reasons x.shape l d
SeenIs r (Ok x) l (Record-as-Refused m) = ⊥
SeenIs r (Err k) l (Read d) = ⊥
SeenIs r (Err k) l (Record-as-Refused m) = number_of k ≡ m

-- 01's first fault of each sort, and what the code has of them
pub record Firsts : Type 0 where
  pub kind : Fault
  pub place : Fault
  pub draw : Fault

abbrev pub firsts_of : Faults → Firsts
firsts_of f = record { kind = fault_of f.kind; place = fault_of f.place; draw = fault_of f.draw }

abbrev pub no_faults : Firsts
no_faults = record { kind = Nothing; place = Nothing; draw = Nothing }

-- whether a chain is refused for nothing
unfoldable pub nothing_due : Reasons → Bool
nothing_due n = is_none n.kind && is_none n.place && is_none n.draw

-- one chain more, with its token's place
unfoldable pub with_reasons : Firsts → Reasons → ℕ → Firsts
with_reasons f n p =
    record { kind = earlier_of f.kind (fault_at (number_due n.kind) p); place = earlier_of f.place (fault_at (number_due n.place) p); draw = earlier_of f.draw (fault_at (number_due n.draw) p) }

-- 01: "per chain 22, then 23, per chain 32 then 33, per chain 12 to 15"
unfoldable pub due_of : Firsts → Bool → Fault
due_of f tail = earlier_of f.kind (cond tail (Due 23 0) (earlier_of f.place f.draw))
