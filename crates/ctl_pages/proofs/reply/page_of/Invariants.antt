use Rattle.std.proofs.Common.{◌≡◌, drop}
use Rattle.serde_json.specs.View.{items_view}
use Rattle.ctl_pages.specs.Replies.{each_told}
use Rattle.ctl_pages.proofs.ReplyLaws.{with_front}
use Rattle.ctl_pages.proofs.reply.page_of.Given as goal

-- the entries so far and those of the elements that are left are those of all
abbrev pub invariant-loop-value : goal.invariant-loop-value
invariant-loop-value l = with_front l.page.items (each_told (items_view (drop l.value-index l.list))) ≡ each_told (items_view l.list)
