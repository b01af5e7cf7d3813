use Rattle.kept_rules.proofs.Sampled.{put_sample}
use Rattle.kept_rules.proofs.samples.a_monitor_is_put_in_so.Goals as goal

pub returns : goal.returns
returns c = put_sample
