-- What cannot be drawn: the tests for 22, 32, 33 and 12 to 15, for one chain and its place. 01, Accepted, or refused by whom. Assumes nothing.
use Rattle.std.specs.Prelude.{ℕ, ◌+◌, ◌*◌, Bool, true, false, cond, not, ◌||◌, ◌&&◌, List, eqb, ltb, leb}
use Rattle.chain_record.specs.declared.plain.ChainPrefix.{ChainPrefix}
use Rattle.chain_record.specs.declared.plain.ChainPrefix.TheVariants as prefix
use Rattle.chain_record.specs.declared.plain.Bridge.{Bridge}
use Rattle.chain_record.specs.declared.plain.Bridge.TheVariants.{Epoxide, Carbocycle}
use Rattle.chain_record.specs.declared.plain.DbPos.{DbPos}
use Rattle.chain_record.specs.declared.plain.Mod.{Mod}
use Rattle.chain_record.specs.declared.plain.Ring.{Ring}
use Rattle.chain_record.specs.plain.Chain.{Chain}
use Rattle.chain_rules.specs.declared.chain.Role.{Role}
use Rattle.chain_rules.specs.declared.chain.Role.TheVariants.{Slot, Acyl, Base}
use Rattle.chain_rules.specs.chain.Lists.{any_of, all_of, any_two, is_empty}
use Rattle.chain_rules.specs.chain.Features.{first_drawn, is_acyl, doubles, groups_on, floating, pins, remaining, drawn_count, site_skip}

abbrev pub is_sphingoid : ChainPrefix → Bool
is_sphingoid prefix.SphingoidD = true
is_sphingoid prefix.SphingoidT = true
is_sphingoid prefix.Acyl = false
is_sphingoid prefix.EtherAlkyl = false
is_sphingoid prefix.EtherAlkenyl = false

abbrev pub is_ether : ChainPrefix → Bool
is_ether prefix.EtherAlkyl = true
is_ether prefix.EtherAlkenyl = true
is_ether prefix.Acyl = false
is_ether prefix.SphingoidD = false
is_ether prefix.SphingoidT = false

-- 22, "wrong kind of chain for its place". 01, Templates and the builder: "FA .. acyl, c > 0", "Base c ≥ 4", "Acyl must be acyl, c > 0",
-- "d and t chains with c > 0 fit only a base."
unfoldable pub wrong_kind : Role → Chain → Bool
unfolding is_acyl
wrong_kind Slot d = is_sphingoid d.prefix && ltb 0 d.carbon
wrong_kind Acyl d = not (is_acyl Acyl d.prefix) || eqb d.carbon 0
wrong_kind Base d = ltb d.carbon 4

-- 32: "double bond p unless f ≤ p < c"
unfoldable pub double_off : ℕ → ℕ → DbPos → Bool
double_off f c b = not (leb f b.pos && ltb b.pos c)

-- "located group outside f..c"
unfoldable pub group_off : ℕ → ℕ → Mod → Bool
group_off f c g = not (leb f g.pos && leb g.pos c)

-- "ring start below f, or 1 on an acyl chain"
unfoldable pub ring_off : ℕ → Bool → Ring → Bool
ring_off f acyl x = ltb x.start f || (acyl && eqb x.start 1)

-- "`O-` or `P-` on a base"
abbrev pub is_ether_base : Role → ChainPrefix → Bool
is_ether_base Base p = is_ether p
is_ether_base Slot p = false
is_ether_base Acyl p = false

-- 32, "feature off the drawn chain"; also "any group when c is 0"
unfoldable pub off_chain : Role → Chain → Bool
unfolding any_of double_off group_off ring_off doubles groups_on is_acyl is_empty
off_chain r d =
    any_of (double_off (first_drawn r) d.carbon) (doubles r d) || any_of (group_off (first_drawn r) d.carbon) (groups_on r d)
    || any_of (ring_off (first_drawn r) (is_acyl r d.prefix)) d.rings
    || (eqb d.carbon 0 && not (is_empty d.groups)) || is_ether_base r d.prefix

abbrev pub is_epoxide : Bridge → Bool
is_epoxide Epoxide = true
is_epoxide Carbocycle = false

-- 33: "two located double bonds at one p"
unfoldable pub same_bond : DbPos → DbPos → Bool
same_bond a b = eqb a.pos b.pos

-- "a double bond where an epoxide starts"
unfoldable pub epoxide_on : List DbPos → Ring → Bool
unfolding any_of
epoxide_on bs x = is_epoxide x.bridge && any_of (λ b. eqb b.pos x.start) bs

-- "a bracketed ring of 1 or 2 atoms": any `cy` ring; an alias ring that is no epoxide has 3
unfoldable pub small_ring : Ring → Bool
small_ring x = not (is_epoxide x.bridge) && ltb x.end (x.start + 2)

-- "two rings with the same start and the same end"
unfoldable pub same_ring : Ring → Ring → Bool
same_ring x y = eqb x.start y.start && eqb x.end y.end

-- 33, "two features that clash"
unfoldable pub clashes : Role → Chain → Bool
unfolding any_two same_bond doubles any_of epoxide_on small_ring same_ring
clashes r d = any_two same_bond (doubles r d) || any_of (epoxide_on (doubles r d)) d.rings || any_of small_ring d.rings || any_two same_ring d.rings

-- 12, "located group at C1 of an acyl chain"
unfoldable pub group_on_carbonyl : Role → Chain → Bool
unfolding is_acyl any_of groups_on
group_on_carbonyl r d = is_acyl r d.prefix && any_of (λ g. eqb g.pos 1) (groups_on r d)

-- 13, "unlocated bonds and a first pin too far". 01, Drawing a chain: "n > 0: a first pin (located group or ring start) past 3 on acyl, else
-- past f + 1, gives 13"
unfoldable pub pin_too_far : Role → Chain → Bool
unfolding is_acyl is_empty all_of pins
pin_too_far r d =
    not (eqb d.unlocated 0) && not (is_empty (pins r d)) && all_of (λ p. ltb (cond (is_acyl r d.prefix) 3 (first_drawn r + 1)) p) (pins r d)

-- 14, "flexible tail too short": "R < 2n+2 gives 14"
unfoldable pub tail_too_short : Role → Chain → Bool
unfolding remaining
tail_too_short r d = not (eqb d.unlocated 0) && ltb (remaining r d) (2 * d.unlocated + 2)

-- 15, "unlocated group with no site"
unfoldable pub no_site : Role → Chain → Bool
unfolding is_empty floating drawn_count site_skip
no_site r d = not (is_empty (floating d)) && leb (drawn_count r d) (site_skip r d)

-- "per chain 32 then 33": the number, or 0
unfoldable pub place_refusal : Role → Chain → ℕ
unfolding off_chain clashes
place_refusal r d = cond (off_chain r d) 32 (cond (clashes r d) 33 0)

-- "per chain 12 to 15": the number, or 0
unfoldable pub draw_refusal : Role → Chain → ℕ
unfolding group_on_carbonyl pin_too_far tail_too_short no_site
draw_refusal r d =
    cond (group_on_carbonyl r d) 12 (cond (pin_too_far r d) 13 (cond (tail_too_short r d) 14 (cond (no_site r d) 15 0)))
