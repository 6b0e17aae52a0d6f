use Rattle.ctl_feed.proofs.stamps.nginx_time.Goals as goal

pub returns : goal.returns
returns c = rw (c.before-2.ensures, c.behind.ensures, c.before-year.ensures, c.before-name.ensures, c.before-day.ensures, c.behind-rest-3.ensures, c.behind-rest-2.ensures, c.behind-rest.ensures) at c.dated_time.ensures
