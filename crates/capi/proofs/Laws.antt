-- The law of the report: its 21 numbers, from those of the answer. Assumes nothing.
use Prim.Native.Nat.{ℕ, min}
use mathlib.Core.Path.{◌≡◌}
use mathlib.Core.List.{[], ◌∷◌}
use lib.ListN.{get_or}
use Rattle.line_parts.specs.declared.shown.Site.{Site}
use Rattle.chain_lists.specs.declared.listing.Listed.{Listed}
use Rattle.chain_lists.specs.listing.Lists.{no_list}
use Rattle.chain_lists.specs.listing.Sites.{no_site}
use Rattle.answers.specs.declared.answer.Answer.{Answer}
use Rattle.capi.specs.Report.{list_pair, site_pair, report_of}

pub report-is : (x : Answer) {k l m n : ℕ} {a b c d : Listed} {p q s t : Site} → k ≡ min x.token 4294967295 → l ≡ min x.length 4294967295
    → m ≡ min x.lists.count 4294967295 → a ≡ get_or x.lists.items 0 no_list → b ≡ get_or x.lists.items 1 no_list → c ≡ get_or x.lists.items 2 no_list
    → d ≡ get_or x.lists.items 3 no_list → n ≡ min x.sites.count 4294967295 → p ≡ get_or x.sites.items 0 no_site → q ≡ get_or x.sites.items 1 no_site
    → s ≡ get_or x.sites.items 2 no_site → t ≡ get_or x.sites.items 3 no_site
    → (x.number ∷ k ∷ l ∷ m ∷ a.sn ∷ a.count ∷ b.sn ∷ b.count ∷ c.sn ∷ c.count ∷ d.sn ∷ d.count ∷ n ∷ p.sn ∷ p.atom ∷ q.sn ∷ q.atom ∷ s.sn ∷ s.atom ∷ t.sn ∷ t.atom ∷ [])
    ≡ report_of x
unfolding list_pair site_pair report_of
report-is x e₁ e₂ e₃ e₄ e₅ e₆ e₇ e₈ e₉ e₁₀ e₁₁ e₁₂ = rw (e₁, e₂, e₃, e₄, e₅, e₆, e₇, e₈, e₉, e₁₀, e₁₁, e₁₂)
