pub mod Sights
pub mod Facts
pub mod Claims
pub mod MailLets
pub mod MailHeld
pub mod LeafPowers
pub mod Mailboxes
