-- What a link between processes stands for.
use Rattle.dv_conservative.specs.World.{Channel}
use Rattle.dv_proc.specs.declared.channel.Channel.{Channel as ChannelOfCode}

abbrev pub meant_channel : ChannelOfCode → Channel
meant_channel c = record { source = c.source; target = c.target }
