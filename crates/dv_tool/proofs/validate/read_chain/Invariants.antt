-- The files up to here are the certificates that were read.
use Rattle.std.proofs.Common.{◌≡◌, ◌≤◌, ◌*◌, length, map, take}
use Rattle.std.specs.Prelude.{All, sum_by}
use Rattle.dv_asn1.specs.Lists.{lists_of}
use Rattle.dv_request.specs.Materials.{IsCertificate as FitsRequest}
use Rattle.dv_tool.specs.Certificates.{AreFilesOf}
use Rattle.dv_tool.proofs.validate.read_chain.Given as goal

abbrev pub invariant-loop-name : goal.invariant-loop-name
invariant-loop-name g l = record {
  held : AreFilesOf (g.F.Shelf.files l.initial.shelf) (map (λ n. n.now) (take l.name-index l.names)) (lists_of l.certificates.items);
  fit : All FitsRequest (lists_of l.certificates.items);
  count : length l.certificates.items ≡ l.name-index;
  short : sum_by (λ c. length c.items) l.certificates.items ≤ l.name-index * 8192;
  files : g.F.Shelf.files l.shelf ≡ g.F.Shelf.files l.initial.shelf;
  later : g.F.Shelf.faults l.initial.shelf ≤ g.F.Shelf.faults l.shelf;
}
