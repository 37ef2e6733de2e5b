-- A target and its chain as a value of their schema, and the links of the chain.
use Rattle.std.specs.Prelude.{List, option_map}
use Rattle.std.specs.Option.{option_copied}
use Rattle.dv_schema.specs.Schema.{ValueOf}
use Rattle.dv_request.specs.declared.target.TargetChain.{TargetChain}
use Rattle.dv_request.specs.Links.{links_in}
use Rattle.dv_request.specs.PartViews.{view_path, view_token}
use Rattle.dv_request.specs.Types.{target_chain, token}

-- a TargetEtcChain: its target, the contents octets of its chain, and its path input
abbrev pub view_target : TargetChain → ValueOf target_chain
view_target t = (view_token t.target, (option_copied t.links, (option_map view_path t.input, tt)))

-- the links of its chain, in order
abbrev pub links_of : TargetChain → List (ValueOf token)
links_of t = links_in (option_copied t.links)
