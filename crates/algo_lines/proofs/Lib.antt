pub mod FrontNames
pub mod Numbers
pub mod NameTokens
pub mod PortTokens
