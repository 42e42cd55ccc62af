use Rattle.disks.proofs.volumes_promised.Goals as goal
use Rattle.disks.proofs.Tokens.{old_tokens_nothing, old_tokens_refused}
use Rattle.disks.proofs.Apart.{apart, apart_all}
use Rattle.disks.proofs.Pictures.{pictures-stand}
use Rattle.disks.proofs.VolumeDevice.{is_a_device, cut_as_a_device}
use Rattle.disks.proofs.Worked.{worked_cases, copy_synced}

pub returns : goal.returns
returns c = record { tokens = old_tokens_nothing; refused = old_tokens_refused; apart = apart; wider = apart_all; pictures = pictures-stand; device = is_a_device; cut = cut_as_a_device; worked = worked_cases; synced = copy_synced }
