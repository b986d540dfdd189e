pub mod Found
pub mod HostPlace
pub mod Origins
pub mod PlainHosts
pub mod PlainPaths
pub mod PlainUrls
pub mod UrlViews
