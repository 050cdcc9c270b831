use Rattle.capi.proofs.Laws.{report-is}
use Rattle.capi.proofs.report_of.Goals as goal

pub returns : goal.returns
returns c =
    report-is _
    c.capped-token.ensures
    c.capped-length.ensures
    c.capped-listed.ensures
    c.list_at-a.ensures
    c.list_at-b.ensures
    c.list_at-c.ensures
    c.list_at-d.ensures
    c.capped-sited.ensures
    c.site_at-p.ensures
    c.site_at-q.ensures
    c.site_at-s.ensures
    c.site_at-t.ensures
