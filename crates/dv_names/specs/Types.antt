-- The types of identifiers, algorithms and names, one line each (RFC 5280 4.1.1.2, 4.1.2.4, 4.2; RFC 5652 10.1).
use Rattle.std.specs.Prelude.{ℕ, true, false, ◌==◌, ◌/◌, ◌%◌, List, [], ◌∷◌, if◌then◌else◌}
use Rattle.dv_schema.specs.Schema.{Schema, node, tagged, raw, Body, kept, done, field, optional, sequence_of, set_of, distinct_of}
use Rattle.dv_schema.specs.Reading.{first_contents}
use Rattle.dv_schema.specs.Types.{oid, octet_string, any, flag, free, list_of}

-- AlgorithmIdentifier: SEQUENCE { algorithm OID, parameters any opt }
abbrev pub algorithm_fields : Body
algorithm_fields = field oid (optional any done)

abbrev pub algorithm_identifier : Schema
algorithm_identifier = node 48 algorithm_fields

-- DigestInfo: SEQUENCE { digestAlgorithm AlgorithmIdentifier, digest OCTET STRING }
abbrev pub digest_fields : Body
digest_fields = field algorithm_identifier (field octet_string done)

abbrev pub digest_info : Schema
digest_info = node 48 digest_fields

-- one type and value of a name: SEQUENCE { type OID, value any }
abbrev pub named_value : Schema
named_value = node 48 (field oid (field any done))

-- types and values of a name that stand together: a SET OF, at least one
abbrev pub name_part : Schema
name_part = node 49 (set_of true named_value)

-- Name: SEQUENCE OF these, kept as the whole value
abbrev pub name : Schema
name = raw (node 48 (sequence_of false name_part))

-- the tags of a GeneralName: otherName, rfc822Name, dNSName, x400Address, directoryName, ediPartyName,
-- uniformResourceIdentifier, iPAddress, registeredID
abbrev pub general_tags : List ℕ
general_tags = 160 ∷ 129 ∷ 130 ∷ 163 ∷ 164 ∷ 165 ∷ 134 ∷ 135 ∷ 136 ∷ []

-- a directoryName holds one Name, the other constructed ones well-formed values, and the primitive ones any octets
abbrev pub general_contents : ℕ → Body
general_contents tag = if tag == 164 then field name done else if tag / 32 % 2 == 1 then sequence_of false any else free

-- GeneralName: a tag, and contents that go by it, kept
abbrev pub general_name : Schema
general_name = tagged general_tags (λ tag. kept (general_contents tag))

-- GeneralNames: SEQUENCE OF GeneralName, at least one, under this tag
abbrev pub general_names : ℕ → Schema
general_names tag = list_of tag true general_name

-- PolicyInformation: SEQUENCE { policyIdentifier OID, policyQualifiers SEQUENCE OF any opt, at least one }, under this tag
abbrev pub policy_fields : Body
policy_fields = field oid (optional (list_of 48 true any) done)

abbrev pub policy_information : ℕ → Schema
policy_information tag = node tag policy_fields

-- Extension: SEQUENCE { extnID OID, critical BOOLEAN default FALSE, extnValue OCTET STRING }
abbrev pub extension_fields : Body
extension_fields = field oid (optional (flag 1) (field octet_string done))

abbrev pub extension : Schema
extension = node 48 extension_fields

-- Extensions: SEQUENCE OF Extension, at least one, of which no two have one identifier; the contents of each are also these
abbrev pub extensions : Body → Body
extensions known = distinct_of true first_contents 48 extension_fields known

-- the same under this tag, kept
abbrev pub extensions_under : ℕ → Body → Schema
extensions_under tag known = node tag (kept (extensions known))
