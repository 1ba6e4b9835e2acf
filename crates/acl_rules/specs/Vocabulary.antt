-- The IRIs that access lists use.
use Rattle.std.specs.Prelude.{ℕ, List}
use Rattle.rdf_graph.specs.declared.vocabulary.TheConstants.{RDF_TYPE}
use Rattle.acl_rules.specs.declared.vocabulary.TheConstants.{ACL_AUTHORIZATION}
use Rattle.acl_rules.specs.declared.vocabulary.TheConstants.{ACL_ACCESS_TO, ACL_DEFAULT, ACL_MODE}
use Rattle.acl_rules.specs.declared.vocabulary.TheConstants.{ACL_READ, ACL_APPEND, ACL_WRITE}
use Rattle.acl_rules.specs.declared.vocabulary.TheConstants.{ACL_CONTROL, ACL_AGENT}
use Rattle.acl_rules.specs.declared.vocabulary.TheConstants.{ACL_AGENT_CLASS, ACL_AGENT_GROUP}
use Rattle.acl_rules.specs.declared.vocabulary.TheConstants.{ACL_AUTHENTICATED_AGENT, FOAF_AGENT}
use Rattle.acl_rules.specs.declared.vocabulary.TheConstants.{VCARD_HAS_MEMBER}

unfoldable pub rdf_type : List ℕ
rdf_type = RDF_TYPE.now

unfoldable pub acl_authorization : List ℕ
acl_authorization = ACL_AUTHORIZATION.now

unfoldable pub acl_access_to : List ℕ
acl_access_to = ACL_ACCESS_TO.now

unfoldable pub acl_default : List ℕ
acl_default = ACL_DEFAULT.now

unfoldable pub acl_mode : List ℕ
acl_mode = ACL_MODE.now

unfoldable pub acl_read : List ℕ
acl_read = ACL_READ.now

unfoldable pub acl_append : List ℕ
acl_append = ACL_APPEND.now

unfoldable pub acl_write : List ℕ
acl_write = ACL_WRITE.now

unfoldable pub acl_control : List ℕ
acl_control = ACL_CONTROL.now

unfoldable pub acl_agent : List ℕ
acl_agent = ACL_AGENT.now

unfoldable pub acl_agent_class : List ℕ
acl_agent_class = ACL_AGENT_CLASS.now

unfoldable pub acl_agent_group : List ℕ
acl_agent_group = ACL_AGENT_GROUP.now

unfoldable pub acl_authenticated_agent : List ℕ
acl_authenticated_agent = ACL_AUTHENTICATED_AGENT.now

unfoldable pub foaf_agent : List ℕ
foaf_agent = FOAF_AGENT.now

unfoldable pub vcard_has_member : List ℕ
vcard_has_member = VCARD_HAS_MEMBER.now
